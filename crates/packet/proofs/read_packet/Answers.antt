-- `read_packet` is its definition.
use borrow.Author.Rules.{rules}
use Rattle.packet.proofs.Steps.{few, exact, all_read}
use Prim.Native.Nat.{ℕ, ◌+◌, ◌*◌}
use mathlib.Core.Path.{◌≡◌, refl, sym, ap}
use lib.ListN.{length}
use Rattle.packet.proofs.read_packet.Goals as goal

pub slice_bounds-build_items-end : goal.slice_bounds-build_items-end
slice_bounds-build_items-end c =
    let h : 8 + 28 * c.u16_at-count.result + c.u16_at.result ≡ length c.args.packet.now = rw (c.u16_at-count.ensures, c.u16_at.ensures) (sym (exact c.args.packet.now c.in_ok-test_header.ensures)) in
    search rules

pub build_items-requires-clause-count_bound : goal.build_items-requires-clause-count_bound
build_items-requires-clause-count_bound c = rw c.u16_at-count.ensures (few c.args.packet.now c.in_ok-test_header.ensures)

pub returns : goal.returns
returns c = all_read _ _ c.in_ok-test.ensures c.in_ok-test_header.ensures _ _ _ c.u16_at-count.ensures refl (ap (λ (n : ℕ). 8 + 28 * c.u16_at-count.result + n) c.u16_at.ensures) _ c.build_items.ensures
