-- Words of the product's tables: byte t of a word stands for bit t of the second factor.
use Rattle.std.specs.Prelude.{ℕ, zero, suc, ◌*◌, ◌/◌, ◌%◌}
use Rattle.rules.specs.Field.{◌⊕◌, double}

-- byte t is x^t times a, for the n bytes from 0 on
unfoldable pub shifts : ℕ → ℕ → ℕ
shifts zero a = 0
shifts (suc n) a = a ⊕ shifts n (double a) * 256

abbrev pub multiples : ℕ → ℕ
multiples a = shifts 8 a

-- byte t is 255 where bit t of b is one, for the n lowest bits
unfoldable pub masks : ℕ → ℕ → ℕ
masks zero b = 0
masks (suc n) b = b % 2 * 255 ⊕ masks n (b / 2) * 256
