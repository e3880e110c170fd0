-- The order of refused terms, by their counts and then by their numbers, and the smallest of a list.
use Rattle.std.specs.Prelude.{Bool, true, false, ◌&&◌, ◌||◌, ◌⊎◌, ◌≡◌, ℕ, ◌<◌, ◌≤◌, eqb, ltb}
use Rattle.std.proofs.Math.Bool.{cond}
use Rattle.std.proofs.Common.{true≢false, inl, inr, ◌∙◌, arith, ltb-true, ltb-false, lt-ltb, le-ltb, eqb-true, eq-eqb, ne_eqb}
use mathlib.Core.List.{List, [], ◌∷◌, ◌++◌}
use Rattle.std.proofs.Math.Option.{Option, none, some, none-ne-some}
use Rattle.std.proofs.Math.Path.{refl, sym, ap}
use Rattle.std.proofs.lemmas.Bool.{eqb-false}
use Rattle.program.specs.Layout.{Types}
use Rattle.typing.specs.Places.{Placed, Among, among_first, among_later}
use Rattle.subterms.specs.Smallest.{FaultyTerm, before, smaller, faulty_at, smallest_of}

-- x comes before y, and x comes no later than y
pub data Before (x y : FaultyTerm) : Type 0 where
  fewer : x.count < y.count → Before x y
  lower : x.count ≡ y.count → x.term < y.term → Before x y

pub data NoLater (x y : FaultyTerm) : Type 0 where
  no_more : x.count < y.count → NoLater x y
  as_many : x.count ≡ y.count → x.term ≤ y.term → NoLater x y

-- ---- the test of it
before_true : (x y : FaultyTerm) → before x y ≡ true → Before x y
before_true x y h = go (ltb x.count y.count) refl h
  where
    same : (b : Bool) → eqb x.count y.count ≡ b → (b && ltb x.term y.term) ≡ true → Before x y
    same true e f = lower (eqb-true x.count y.count e) (ltb-true x.term y.term f)
    same false e f = absurd (true≢false (sym f))

    go : (b : Bool) → ltb x.count y.count ≡ b → (b || (eqb x.count y.count && ltb x.term y.term)) ≡ true → Before x y
    go true e f = fewer (ltb-true x.count y.count e)
    go false e f = same (eqb x.count y.count) refl f

before_false : (x y : FaultyTerm) → before x y ≡ false → NoLater y x
before_false x y h = go (ltb x.count y.count) refl h
  where
    same : (b : Bool) → eqb x.count y.count ≡ b → y.count ≤ x.count → (b && ltb x.term y.term) ≡ false → NoLater y x
    same true e l f = as_many (sym (eqb-true x.count y.count e)) (ltb-false x.term y.term f)
    same false e l f = no_more (let n = eqb-false x.count y.count e in omega (arith, n))

    go : (b : Bool) → ltb x.count y.count ≡ b → (b || (eqb x.count y.count && ltb x.term y.term)) ≡ false → NoLater y x
    go true e f = absurd (true≢false f)
    go false e f = same (eqb x.count y.count) refl (ltb-false x.count y.count e) f

true_before : {x y : FaultyTerm} → Before x y → before x y ≡ true
true_before {x} {y} (fewer l) = ap (λ (b : Bool). b || (eqb x.count y.count && ltb x.term y.term)) (lt-ltb x.count y.count l)
true_before {x} {y} (lower e l) =
    (λ i. le-ltb x.count y.count (omega arith) i || (eq-eqb x.count y.count e i && lt-ltb x.term y.term l i))

false_before : {x y : FaultyTerm} → NoLater y x → before x y ≡ false
false_before {x} {y} (no_more l) =
    (λ i. le-ltb x.count y.count (omega arith) i || (ne_eqb x.count y.count (λ e. omega arith) i && ltb x.term y.term))
false_before {x} {y} (as_many e l) =
    (λ i. le-ltb x.count y.count (omega arith) i || (eq-eqb x.count y.count (sym e) i && le-ltb x.term y.term l i))

-- ---- both are transitive
before_trans : {x y z : FaultyTerm} → Before x y → Before y z → Before x z
before_trans (fewer h) (fewer g) = fewer (omega arith)
before_trans (fewer h) (lower e g) = fewer (omega arith)
before_trans (lower e h) (fewer g) = fewer (omega arith)
before_trans (lower e h) (lower f g) = lower (e ∙ f) (omega arith)

pub no_later_trans : {x y z : FaultyTerm} → NoLater x y → NoLater y z → NoLater x z
no_later_trans (no_more h) (no_more g) = no_more (omega arith)
no_later_trans (no_more h) (as_many e g) = no_more (omega arith)
no_later_trans (as_many e h) (no_more g) = no_more (omega arith)
no_later_trans (as_many e h) (as_many f g) = as_many (e ∙ f) (omega arith)

pub no_later_self : {x : FaultyTerm} → NoLater x x
no_later_self = as_many refl (omega arith)

before_no_later : {x y : FaultyTerm} → Before x y → NoLater x y
before_no_later (fewer h) = no_more h
before_no_later (lower e h) = as_many e (omega arith)

-- ---- the smaller of two
-- of three, from whichever side one starts
pub smaller_assoc : (a b c : Option FaultyTerm) → smaller (smaller a b) c ≡ smaller a (smaller b c)
smaller_assoc none b c = refl
smaller_assoc (some x) none c = refl
smaller_assoc (some x) (some y) none = refl
smaller_assoc (some x) (some y) (some z) = go (before y x) (before z y) refl refl
  where
    go : (b c : Bool) → before y x ≡ b → before z y ≡ c
        → smaller (some (cond b y x)) (some z) ≡ smaller (some x) (some (cond c z y))
    go true true e f = rw (f, true_before (before_trans (before_true z y f) (before_true y x e))) refl
    go true false e f = rw (e, f) refl
    go false true e f = refl
    go false false e f = rw (e, false_before (no_later_trans (before_false y x e) (before_false z y f))) refl

pub smaller_none : (a : Option FaultyTerm) → smaller a none ≡ a
smaller_none none = refl
smaller_none (some x) = refl

-- it is one of them
pub smaller_one : (a b : Option FaultyTerm) (z : FaultyTerm) → smaller a b ≡ some z → (a ≡ some z) ⊎ (b ≡ some z)
smaller_one none b z e = inr e
smaller_one (some x) none z e = inl e
smaller_one (some x) (some y) z e = go (before y x) e
  where
    go : (b : Bool) → some (cond b y x) ≡ some z → (some x ≡ some z) ⊎ (some y ≡ some z)
    go true f = inr f
    go false f = inl f

-- it comes no later than either
smaller_left : (x y : FaultyTerm) → NoLater (cond (before y x) y x) x
smaller_left x y = go (before y x) refl
  where
    go : (b : Bool) → before y x ≡ b → NoLater (cond b y x) x
    go true e = before_no_later (before_true y x e)
    go false e = no_later_self

smaller_right : (x y : FaultyTerm) → NoLater (cond (before y x) y x) y
smaller_right x y = go (before y x) refl
  where
    go : (b : Bool) → before y x ≡ b → NoLater (cond b y x) y
    go true e = no_later_self
    go false e = before_false y x e

-- one with more terms than another is passed over
pub passed : (x y : FaultyTerm) → y.count < x.count → smaller (some x) (some y) ≡ some y
passed x y h = ap (λ (b : Bool). some (cond b y x)) (true_before {x = y} {y = x} (fewer h))

-- ---- the smallest of a list
-- one of the list is found, and it comes no later than any
pub record SmallestOf (T : Types) (A : ℕ → ℕ) (l : List Placed) (x : FaultyTerm) : Type 0 where
  pub at : Placed
  pub listed : Among at l
  pub is : faulty_at T A at ≡ some x

pub record Least (T : Types) (A : ℕ → ℕ) (l : List Placed) (y : FaultyTerm) : Type 0 where
  pub least : FaultyTerm
  pub is : smallest_of T A l ≡ some least
  pub no_later : NoLater least y

module _ (T : Types) (A : ℕ → ℕ) where
  pub smallest_append : (l m : List Placed) → smallest_of T A (l ++ m) ≡ smaller (smallest_of T A l) (smallest_of T A m)
  unfolding smallest_of
  smallest_append [] m = refl
  smallest_append (x ∷ l) m = ap (smaller (faulty_at T A x)) (smallest_append l m)
      ∙ sym (smaller_assoc (faulty_at T A x) (smallest_of T A l) (smallest_of T A m))

  pub smallest_found : (l : List Placed) (x : FaultyTerm) → smallest_of T A l ≡ some x → SmallestOf T A l x
  unfolding smallest_of
  smallest_found [] x e = absurd (none-ne-some x e)
  smallest_found (p ∷ l) x e = go (λ f. smallest_found l x f) (faulty_at T A p) (smallest_of T A l) refl refl e
    where
      later : SmallestOf T A l x → SmallestOf T A (p ∷ l) x
      later h = record { at = h.at; listed = among_later h.listed; is = h.is }

      self : faulty_at T A p ≡ some x → SmallestOf T A (p ∷ l) x
      self f = record { at = p; listed = among_first; is = f }

      chosen : (smallest_of T A l ≡ some x → SmallestOf T A l x) → (b : Bool) (y z : FaultyTerm) → faulty_at T A p ≡ some y → smallest_of T A l ≡ some z
          → some (cond b z y) ≡ some x → SmallestOf T A (p ∷ l) x
      chosen r true y z f g h = later (r (g ∙ h))
      chosen r false y z f g h = self (f ∙ h)

      go : (smallest_of T A l ≡ some x → SmallestOf T A l x) → (a b : Option FaultyTerm) → faulty_at T A p ≡ a → smallest_of T A l ≡ b → smaller a b ≡ some x
          → SmallestOf T A (p ∷ l) x
      go r none b f g h = later (r (g ∙ h))
      go r (some y) none f g h = self (f ∙ h)
      go r (some y) (some z) f g h = chosen r (before z y) y z f g h

  pub smallest_least : (l : List Placed) {p : Placed} → Among p l → (y : FaultyTerm) → faulty_at T A p ≡ some y → Least T A l y
  unfolding smallest_of
  smallest_least [] m y e = elim m [ ]
  smallest_least (p ∷ l) among_first y e = go (smallest_of T A l) refl
    where
      go : (b : Option FaultyTerm) → smallest_of T A l ≡ b → Least T A (p ∷ l) y
      go none g = record { least = y; is = rw (e, g) refl; no_later = no_later_self }
      go (some z) g = record { least = cond (before z y) z y; is = rw (e, g) refl; no_later = smaller_left y z }
  smallest_least (q ∷ l) (among_later m) y e =
      let h = smallest_least l m y e in go h.least h.is h.no_later (faulty_at T A q) refl
    where
      go : (z : FaultyTerm) → smallest_of T A l ≡ some z → NoLater z y → (a : Option FaultyTerm) → faulty_at T A q ≡ a → Least T A (q ∷ l) y
      go z g k none f = record { least = z; is = rw (f, g) refl; no_later = k }
      go z g k (some x) f = record { least = cond (before z x) z x; is = rw (f, g) refl; no_later = no_later_trans (smaller_right x z) k }
