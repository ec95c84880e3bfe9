use Rattle.std.proofs.Common.{◌-◌}
use Rattle.compare.proofs.file.CellFile.length.Given as goal

abbrev pub decreases-loop-bytes : goal.decreases-loop-bytes
decreases-loop-bytes l = 140737488355328 - l.bytes
