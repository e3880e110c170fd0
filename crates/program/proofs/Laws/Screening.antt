-- What a screening tells: the first condition that is found, and `clear` exactly if none is.
use Rattle.std.specs.Prelude.{Bool, true, false, cond, List, [], ◌∷◌, ◌++◌, ◌≡◌, refl, ℕ, zero, suc, ◌+◌, ◌≤◌, ◌<◌}
use Rattle.std.proofs.Common.{true≢false, sym, ap, ◌∙◌, subst, arith}
use Rattle.std.proofs.Math.Option.{Option, none, some}
use Rattle.std.proofs.Math.Decide.{ℕ_discrete}
use Rattle.program.specs.Screening.{Condition, Screening, clear, found, refuse_at, screen, First, first_here, first_later, None, none_end, none_next, unless, onward, lowest}

-- ---- constructors apart
abbrev IsClear : Screening → Type 0
IsClear clear = Unit {0}
IsClear (found c p) = ⊥

pub found≢clear : {c p : ℕ} → found c p ≡ clear → ⊥
found≢clear e = subst IsClear (sym e) tt

abbrev IsNone : Option ℕ → Type 0
IsNone none = Unit {0}
IsNone (some i) = ⊥

pub some≢none : {i : ℕ} → some i ≡ none → ⊥
some≢none e = subst IsNone (sym e) tt

-- ---- the first that is found is told
pub found_first : (cs : List Condition) (c p : ℕ) → screen cs ≡ found c p → First c p cs
unfolding screen refuse_at
found_first [] c p e = absurd (found≢clear (sym e))
found_first (x ∷ xs) c p e = go (x.found tt) refl e (found_first xs c p)
  where
    go : (o : Option ℕ) → x.found tt ≡ o → refuse_at x.cause o (λ _. screen xs) ≡ found c p → (screen xs ≡ found c p → First c p xs) → First c p (x ∷ xs)
    go none h f rest = first_later h (rest f)
    go (some q) h f rest = first_here (let g : x.cause ≡ c = cc in g) (h ∙ (let g : some q ≡ some p = cc in g))

pub first_found : {c p : ℕ} {cs : List Condition} → First c p cs → screen cs ≡ found c p
unfolding screen refuse_at
first_found {p = p} (first_here {c} {cs} e f) = (λ i. refuse_at c.cause (f i) (λ _. screen cs)) ∙ ap (λ (x : ℕ). found x p) e
first_found (first_later {c} {cs} f r) = (λ i. refuse_at c.cause (f i) (λ _. screen cs)) ∙ first_found r

pub clear_none : (cs : List Condition) → screen cs ≡ clear → None cs
unfolding screen refuse_at
clear_none [] e = none_end
clear_none (x ∷ xs) e = go (x.found tt) refl e (clear_none xs)
  where
    go : (o : Option ℕ) → x.found tt ≡ o → refuse_at x.cause o (λ _. screen xs) ≡ clear → (screen xs ≡ clear → None xs) → None (x ∷ xs)
    go none h f rest = none_next h (rest f)
    go (some q) h f rest = absurd (found≢clear f)

pub none_clear : {cs : List Condition} → None cs → screen cs ≡ clear
unfolding screen refuse_at
none_clear none_end = refl
none_clear (none_next {c} {cs} f r) = (λ i. refuse_at c.cause (f i) (λ _. screen cs)) ∙ none_clear r

-- ---- lists of conditions, one after the other
pub none_cons : {c : Condition} {cs : List Condition} → None (c ∷ cs) → (c.found tt ≡ none) × None cs
none_cons (none_next f n) = (f, n)

pub none_append : (xs ys : List Condition) → None (xs ++ ys) → None xs × None ys
none_append [] ys n = (none_end, n)
none_append (x ∷ xs) ys (none_next f n) = let r = none_append xs ys n in (none_next f r.0, r.1)

pub append_none : {xs ys : List Condition} → None xs → None ys → None (xs ++ ys)
append_none none_end m = m
append_none (none_next f n) m = none_next f (append_none n m)

pub first_left : {c p : ℕ} {xs : List Condition} (ys : List Condition) → First c p xs → First c p (xs ++ ys)
first_left ys (first_here e f) = first_here e f
first_left ys (first_later f r) = first_later f (first_left ys r)

pub first_right : {c p : ℕ} {xs ys : List Condition} → None xs → First c p ys → First c p (xs ++ ys)
first_right none_end r = r
first_right (none_next f n) r = first_later f (first_right n r)

-- what follows is screened only if what precedes is clear
pub none_screen : {xs : List Condition} → None xs → (ys : List Condition) → screen (xs ++ ys) ≡ screen ys
unfolding screen refuse_at
none_screen none_end ys = refl
none_screen (none_next {c} {cs} f n) ys = (λ i. refuse_at c.cause (f i) (λ _. screen (cs ++ ys))) ∙ none_screen n ys

pub screen_clear : (xs ys : List Condition) → screen xs ≡ clear → screen (xs ++ ys) ≡ screen ys
screen_clear xs ys e = none_screen (clear_none xs e) ys

pub screen_found : (xs ys : List Condition) (c p : ℕ) → screen xs ≡ found c p → screen (xs ++ ys) ≡ found c p
screen_found xs ys c p e = first_found (first_left ys (found_first xs c p e))

-- ---- single conditions
pub unless_none : (cause : ℕ) (ok : Bool) → (unless cause ok).found tt ≡ none → ok ≡ true
unless_none cause true e = refl
unless_none cause false e = absurd (some≢none e)

pub none_unless : {ok : Bool} (cause : ℕ) → ok ≡ true → (unless cause ok).found tt ≡ none
none_unless cause e = λ i. cond (e i) none (some 0)

pub found_unless : {ok : Bool} (cause : ℕ) → ok ≡ false → (unless cause ok).found tt ≡ some 0
found_unless cause e = λ i. cond (e i) none (some 0)

pub unless_found : (cause place : ℕ) (ok : Bool) → (unless cause ok).found tt ≡ some place → ok ≡ false
unless_found cause place true e = absurd (some≢none (sym e))
unless_found cause place false e = refl

-- The lowest number that fails a test: the test holds of all, or it is told where it first fails.
pub lowest_none : (ok : ℕ → Bool) (i n : ℕ) → lowest ok i n ≡ none → (x : ℕ) → i ≤ x → x < i + n → ok x ≡ true
lowest_none ok i zero e x l h = absurd (omega arith)
lowest_none ok i (suc n) e x l h = go (ok i) refl e (λ q g. lowest_none ok (suc i) n q x g (omega arith))
  where
    go : (b : Bool) → ok i ≡ b → onward b i (λ _. lowest ok (suc i) n) ≡ none → (lowest ok (suc i) n ≡ none → suc i ≤ x → ok x ≡ true) → ok x ≡ true
    go true p q rest = elim (ℕ_discrete i x) [ yes y ↦ ap ok (sym y) ∙ p | no y ↦ rest q (omega arith) ]
    go false p q rest = absurd (some≢none q)

pub record LowestFailing (ok : ℕ → Bool) (i n x : ℕ) : Type 0 where
  pub from : i ≤ x
  pub inside : x < i + n
  pub fails : ok x ≡ false
  pub least : (y : ℕ) → i ≤ y → y < x → ok y ≡ true

pub lowest_some : (ok : ℕ → Bool) (i n x : ℕ) → lowest ok i n ≡ some x → LowestFailing ok i n x
lowest_some ok i zero x e = absurd (some≢none (sym e))
lowest_some ok i (suc n) x e = go (ok i) refl e (lowest_some ok (suc i) n x)
  where
    go : (b : Bool) → ok i ≡ b → onward b i (λ _. lowest ok (suc i) n) ≡ some x → (lowest ok (suc i) n ≡ some x → LowestFailing ok (suc i) n x)
        → LowestFailing ok i (suc n) x
    go true p q rest =
        let r = rest q in
        record {
          from = omega (arith, r.from);
          inside = omega (arith, r.inside);
          fails = r.fails;
          least = λ y l h. elim (ℕ_discrete i y) [ yes z ↦ ap ok (sym z) ∙ p | no z ↦ r.least y (omega arith) h ];
        }
    go false p q rest =
        let z : i ≡ x = cc in
        record { from = omega arith; inside = omega arith; fails = ap ok (sym z) ∙ p; least = λ y l h. absurd (omega arith) }

pub lowest_at : (ok : ℕ → Bool) (i n x : ℕ) → LowestFailing ok i n x → lowest ok i n ≡ some x
lowest_at ok i zero x r = absurd (omega (arith, r.from, r.inside))
lowest_at ok i (suc n) x r = go (ok i) refl (lowest_at ok (suc i) n x)
  where
    go : (b : Bool) → ok i ≡ b → (LowestFailing ok (suc i) n x → lowest ok (suc i) n ≡ some x) → onward b i (λ _. lowest ok (suc i) n) ≡ some x
    go true p rest =
        let ne : (i ≡ x → ⊥) = λ z. true≢false (sym p ∙ ap ok z ∙ r.fails) in
        rest (record { from = omega (arith, ne, r.from); inside = omega (arith, r.inside); fails = r.fails; least = λ y l h. r.least y (omega arith) h })
    go false p rest = elim (ℕ_discrete i x) [ yes z ↦ ap some z | no z ↦ absurd (true≢false (sym (r.least i (omega arith) (omega (arith, z, r.from))) ∙ p)) ]
