-- Operations on ranges contain those on the numbers inside them, and reach both of their ends.
use Rattle.std.specs.Prelude.{Bool, true, false, cond, ◌≡◌, refl, ℕ, leb, ltb}
use Rattle.std.proofs.Math.Option.{Option, none, some}
use Rattle.std.proofs.Common.{sym, subst, arith, ltb-true, leb-true, lt-ltb, le-ltb}
use Rattle.semantics.specs.Domains.{single}
use Rattle.intervals.specs.Intervals.{Interval, sum_of, difference_of, less_of}
use Rattle.intervals.specs.Claims.{Inside}

-- what is known of a truth value: it is the one, or nothing is
pub data Agrees : Option Bool → Bool → Type 0 where
  agrees_known : {b : Bool} → Agrees (some b) b
  agrees_none : {b : Bool} → Agrees none b

pub agreed : {b c : Bool} → Agrees (some b) c → c ≡ b
agreed agrees_known = refl

module _ (i j : Interval) (m n : ℕ) (hm : Inside i m) (hn : Inside j n) where
  pub sum_inside : Inside (sum_of i j) (single.sum m n)
  sum_inside = record { least = omega (arith, hm.least, hn.least); most = omega (arith, hm.most, hn.most) }

  pub difference_inside : Inside (difference_of i j) (single.difference m n)
  difference_inside = record { least = omega (arith, hm.least, hn.most); most = omega (arith, hm.most, hn.least) }

  pub less_agrees : Agrees (less_of i j) (ltb m n)
  less_agrees = go (ltb i.high j.low) refl (leb j.high i.low) refl
    where
      go : (a : Bool) → ltb i.high j.low ≡ a → (b : Bool) → leb j.high i.low ≡ b → Agrees (cond a (some true) (cond b (some false) none)) (ltb m n)
      go true e b f = subst (Agrees (some true)) (sym (lt-ltb m n (omega (arith, hm.most, hn.least, ltb-true i.high j.low e)))) agrees_known
      go false e true f = subst (Agrees (some false)) (sym (le-ltb m n (omega (arith, hm.least, hn.most, leb-true j.high i.low f)))) agrees_known
      go false e false f = agrees_none
