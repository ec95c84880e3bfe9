-- `sending::sent_bits` meets its contract.
use Rattle.profile.proofs.InRange.{ranges}
use Rattle.block.proofs.Scrambling.{scrambled-block}
use Rattle.sending.proofs.Sent.{sent-row}
use Rattle.sending.proofs.sent_bits.Goals as goal

pub block_of-block-requires : goal.block_of-block-requires
block_of-block-requires c = ((ranges c.args.p c.requires.0).k, c.requires.1)

pub returns : goal.returns
returns c =
    let a = c.args in
    sent-row a.p a.«data».now c.block_of-block.result c.code_block-bits.result _ c.block_of-block.ensures c.code_block-bits.ensures
    (scrambled-block a.p.mode a.p.seeds a.p.masks c.code_block-bits.result _ c.code_block-bits.ensures.long c.scramble.ensures)
