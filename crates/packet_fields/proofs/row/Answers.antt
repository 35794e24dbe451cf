-- `row` meets its contract: each byte is what the closure answers at its place. Assumes nothing.
use Prim.Native.Nat.{◌+◌}
use lib.ListN.{get_or}
use borrow.Author.Rules.{rules}
use Rattle.packet_fields.proofs.Rows.{made_of}
use Rattle.packet_fields.proofs.row.Goals as goal

pub returns : goal.returns
returns g c i = made_of _ (λ i. get_or c.args.bytes.now (c.args.at + i) 0) _ (λ i y q k. search rules) _ _ c.from_fn.ensures.items i 0
