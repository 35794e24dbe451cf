-- The order of the board is total, since those of its three numbers are: no record is before itself; if a is before b and b before c, then a is
-- before c; and of two different records one is before the other. Assumes nothing.
use Prim.Native.Nat.{ℕ}
use mathlib.Core.Path.{◌≡◌, refl, sym, ap, ◌∙◌}
use mathlib.Core.Bool.{Bool, true, false, cond, ◌&&◌, ◌||◌, true≢false}
use lib.IntN.{ℤ}
use lib.Dec.{eqb, ltb}
use Rattle.std.specs.Cmp.{IsTotalOrder, unsigned_tied, unsigned_Decides, signed_Decides}
use Rattle.std.specs.Ordering.{nat_cmp, int_cmp, is_lt, is_eq, on, then_cmp, ordering_then, ordering_reverse}
use Rattle.std.specs.Prelude.{int_lt}
use Rattle.std.specs.declared.cmp.Ordering.{Ordering}
use Rattle.std.specs.declared.cmp.Ordering.TheVariants.{Less, Equal, Greater}
use Rattle.std.proofs.lemmas.Cmp.{then_total, on_total, nat_cmp_total, int_cmp_total, tied_itself}
use Rattle.board.specs.Order.{before}
use Rattle.board.specs.declared.Deadline.{Deadline}

-- the three numbers compared, one after the other
abbrev order : Deadline → Deadline → Ordering
order = then_cmp (on (λ (a : Deadline). a.moment) int_cmp) (then_cmp (on (λ (a : Deadline). a.nanosecond) nat_cmp) (on (λ (a : Deadline). a.id) nat_cmp))

order_total : IsTotalOrder order
order_total = then_total (on_total (λ a. a.moment) int_cmp_total) (then_total (on_total (λ a. a.nanosecond) nat_cmp_total) (on_total (λ a. a.id) nat_cmp_total))

-- ---- `before` is that order

int_less : (x y : ℤ) → is_lt (int_cmp x y) ≡ int_lt x y
int_less x y = by (int_lt x y) (int_lt y x)
  where
    by : (t u : Bool) → is_lt (cond t Less (cond u Greater Equal)) ≡ t
    by true u = refl
    by false true = refl
    by false false = refl

nat_less : (x y : ℕ) → is_lt (nat_cmp x y) ≡ ltb x y
nat_less x y = by (ltb x y) (eqb x y)
  where
    by : (t u : Bool) → is_lt (cond t Less (cond u Equal Greater)) ≡ t
    by true u = refl
    by false true = refl
    by false false = refl

-- one comparison, and the rest where it is equal
less_then : (o p : Ordering) → is_lt (ordering_then o p) ≡ (is_lt o || (is_eq o && is_lt p))
less_then Less p = refl
less_then Equal p = refl
less_then Greater p = refl

before_is : (a b : Deadline) → before a b ≡ is_lt (order a b)
unfolding before
before_is a b = sym (rw (less_then, int_less, less_then, nat_less a.nanosecond b.nanosecond, unsigned_tied, nat_less a.id b.id) refl)

-- ---- what follows

pub never_itself : (a : Deadline) → before a a ≡ false
never_itself a = before_is a a ∙ ap is_lt (tied_itself order_total a)

less_only : (o : Ordering) → is_lt o ≡ true → o ≡ Less
less_only Less e = refl
less_only Equal e = absurd (true≢false (sym e))
less_only Greater e = absurd (true≢false (sym e))

pub before_chain : (a b c : Deadline) → before a b ≡ true → before b c ≡ true → before a c ≡ true
before_chain a b c h k =
    let ab : order a b ≡ Less = less_only (order a b) (sym (before_is a b) ∙ h) in
    let bc : order b c ≡ Less = less_only (order b c) (sym (before_is b c) ∙ k) in
    before_is a c ∙ ap is_lt (order_total.trans a b c ab bc)

-- two records of which neither is before the other are the same
equal_only : (o p : Ordering) → p ≡ ordering_reverse o → is_lt o ≡ false → is_lt p ≡ false → o ≡ Equal
equal_only Less p e h k = absurd (true≢false h)
equal_only Equal p e h k = refl
equal_only Greater p e h k = absurd (true≢false (ap is_lt (sym e) ∙ k))

both_equal : (o p : Ordering) → ordering_then o p ≡ Equal → (o ≡ Equal) × (p ≡ Equal)
both_equal Less p e = absurd (true≢false (ap is_lt e))
both_equal Equal p e = (refl, e)
both_equal Greater p e = absurd (true≢false (sym (ap is_eq e)))

pub same_record : (a b : Deadline) → before a b ≡ false → before b a ≡ false → a ≡ b
same_record a b h k =
    let equal : order a b ≡ Equal = equal_only (order a b) (order b a) (order_total.antisymm b a) (sym (before_is a b) ∙ h) (sym (before_is b a) ∙ k) in
    let moments = both_equal (int_cmp a.moment b.moment) _ equal in
    let others = both_equal (nat_cmp a.nanosecond b.nanosecond) _ moments.1 in
    (λ i. record {
      id = (unsigned_Decides a.id b.id).0 (sym (unsigned_tied a.id b.id) ∙ ap is_eq others.1) i;
      moment = (signed_Decides a.moment b.moment).0 (ap is_eq moments.0) i;
      nanosecond = (unsigned_Decides a.nanosecond b.nanosecond).0 (sym (unsigned_tied a.nanosecond b.nanosecond) ∙ ap is_eq others.0) i;
    })
