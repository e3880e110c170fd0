-- The chain from a term that needs the privilege, as a derivation: each step of it goes to the first child that may be followed and needs the privilege,
-- and it ends at a cause. A child is lower than its parent, so with as many terms as the term is high the search always ends so, and a derivation has one
-- chain only.
use Rattle.std.specs.Prelude.{Bool, true, false, cond, ◌≡◌, ℕ, zero, suc, ◌<◌, ◌≤◌, length}
use Rattle.std.proofs.Common.{true≢false, sym, ◌∙◌, arith}
use Rattle.std.proofs.lemmas.Bool.{false≢true}
use mathlib.Core.List.{List, [], ◌∷◌, tail}
use Rattle.std.proofs.Math.Option.{Option, none, some}
use Rattle.std.proofs.Math.Path.{refl, ap, subst}
use borrow.Author.Tests.{eqb-true, eq-eqb}
use Rattle.program.specs.Layout.{Types}
use Rattle.program.specs.Terms.{Term, boolean, number, variable, function, letrec, call, if, check, enable, sign, test, binary, post, EveryPost}
use Rattle.program.proofs.Laws.Nesting.{height}
use Rattle.typing.specs.Checking.{Judgement, typed, fault, infer}
use Rattle.typing.specs.Places.{Placed, placed, children_in, children, Among, among_first, among_later}
use Rattle.chains.specs.Explaining.{needs, in_latent, is_cause, tests_it, followed, first_needing, or_later, unless_cause, next, chain_from, chain}
use Rattle.chains.specs.Chains.{Neighbours, side_by_side, further, Last, last_alone, last_later, Cause, check_names, call_holds, letrec_holds, post_guarded, Lowest, lowest_first, lowest_later}
use Rattle.typing.proofs.Laws.Places.{EachOf, each_among}
use Rattle.chains.specs.Laws.Progress.{progress}

false_unless : (b : Bool) → (b ≡ true → ⊥) → b ≡ false
false_unless true f = absurd (f refl)
false_unless false f = refl

-- ---- heights
abbrev pub height_of : Placed → ℕ
height_of (placed Γ n c) = height c

positive : (c : Term) → 0 < height c
positive (boolean at b) = omega arith
positive (number at n) = omega arith
positive (variable at i) = omega arith
positive (function at ty body) = omega arith
positive (letrec at ty body rest) = omega arith
positive (call at f a) = omega arith
positive (if at c y o) = omega arith
positive (check at p c) = omega arith
positive (enable at p c) = omega arith
positive (sign at n c) = omega arith
positive (test at p y o) = omega arith
positive (binary at op a b) = omega arith
positive (post at ch g c) = omega arith

positive_of : (x : Placed) → 0 < height_of x
positive_of (placed Γ n c) = positive c

module _ (T : Types) where
  lower_in : (Γ : List ℕ) (n : ℕ) (c : Term) → EachOf (λ y. height_of y < height c) (children_in T Γ n c)
  lower_in Γ n (boolean at b) = tt
  lower_in Γ n (number at k) = tt
  lower_in Γ n (variable at i) = tt
  lower_in Γ n (function at ty body) = omega arith
  lower_in Γ n (letrec at ty body rest) = omega arith
  lower_in Γ n (call at f a) = omega arith
  lower_in Γ n (if at c y o) = omega arith
  lower_in Γ n (check at q c) = omega arith
  lower_in Γ n (enable at q c) = omega arith
  lower_in Γ n (sign at m c) = omega arith
  lower_in Γ n (test at q y o) = omega arith
  lower_in Γ n (binary at op a b) = omega arith
  lower_in Γ n (post at ch g c) = omega arith

  child_lower : (x y : Placed) → Among y (children T x) → height_of y < height_of x
  unfolding children
  child_lower (placed Γ n c) y m = each_among (λ y. height_of y < height c) m (lower_in Γ n c)

-- ---- the posts of a term are those of its children, and its own
abbrev pub PostsOf : (ℕ → Option ℕ → Type 0) → Placed → Type 0
PostsOf Q (placed Γ n c) = EveryPost Q c

module _ (T : Types) (Q : ℕ → Option ℕ → Type 0) where
  posts_in : (Γ : List ℕ) (n : ℕ) (c : Term) → EveryPost Q c → EachOf (PostsOf Q) (children_in T Γ n c)
  posts_in Γ n (boolean at b) h = tt
  posts_in Γ n (number at k) h = tt
  posts_in Γ n (variable at i) h = tt
  posts_in Γ n (function at ty body) h = (h, tt)
  posts_in Γ n (letrec at ty body rest) h = (h.0, (h.1, tt))
  posts_in Γ n (call at f a) h = (h.0, (h.1, tt))
  posts_in Γ n (if at c y o) h = (h.0, (h.1, (h.2, tt)))
  posts_in Γ n (check at q c) h = (h, tt)
  posts_in Γ n (enable at q c) h = (h, tt)
  posts_in Γ n (sign at m c) h = (h, tt)
  posts_in Γ n (test at q y o) h = (h.0, (h.1, tt))
  posts_in Γ n (binary at op a b) h = (h.0, (h.1, tt))
  posts_in Γ n (post at ch g c) h = (h.1, tt)

  child_posts : (x y : Placed) → Among y (children T x) → PostsOf Q x → PostsOf Q y
  unfolding children
  child_posts (placed Γ n c) y m h = each_among (PostsOf Q) m (posts_in Γ n c h)

-- ---- the child that is followed
module _ (T : Types) (A : ℕ → ℕ) (p : ℕ) where
  -- what may be followed is a child
  followed_child : (x y : Placed) → Among y (followed T A p x) → Among y (children T x)
  unfolding children followed
  followed_child (placed Γ n c) y m = go (tests_it T A p c) (children_in T Γ n c) m
    where
      later : (l : List Placed) → Among y (tail l) → Among y l
      later [] k = k
      later (z ∷ l) k = among_later k

      go : (b : Bool) (l : List Placed) → Among y (cond b (tail l) l) → Among y l
      go true l k = later l k
      go false l k = k

  lowest_among : {y : Placed} {l : List Placed} → Lowest T A p y l → Among y l
  lowest_among (lowest_first h) = among_first
  lowest_among (lowest_later h r) = among_later (lowest_among r)

  lowest_needs : {y : Placed} {l : List Placed} → Lowest T A p y l → needs T A p y ≡ true
  lowest_needs (lowest_first h) = h
  lowest_needs (lowest_later h r) = lowest_needs r

  lowest_found : {y : Placed} {l : List Placed} → Lowest T A p y l → first_needing T A p l ≡ some y
  lowest_found {y} (lowest_first {l = l} h) = ap (λ (b : Bool). or_later T A p b y λ _. first_needing T A p l) h
  lowest_found (lowest_later {z = z} {l = l} h r) = ap (λ (b : Bool). or_later T A p b z λ _. first_needing T A p l) h ∙ lowest_found r

  -- where some need the privilege there is a first of them
  lowest_of : {z : Placed} {l : List Placed} → Among z l → needs T A p z ≡ true → (y : Placed) × Lowest T A p y l
  lowest_of {z} among_first h = (z, lowest_first h)
  lowest_of (among_later {z = w} m) h = go (needs T A p w) refl (lowest_of m h)
    where
      go : {l : List Placed} (b : Bool) → needs T A p w ≡ b → (y : Placed) × Lowest T A p y l → (y : Placed) × Lowest T A p y (w ∷ l)
      go true e r = (w, lowest_first e)
      go false e r = (r.0, lowest_later e r.1)

  -- ---- a chain as a derivation
  pub data Way : Placed → List Placed → Type 0 where
    ends : {x : Placed} → needs T A p x ≡ true → is_cause T A p x ≡ true → Way x (x ∷ [])
    goes : {x y : Placed} {l : List Placed} → needs T A p x ≡ true → is_cause T A p x ≡ false → Lowest T A p y (followed T A p x) → Way y l → Way x (x ∷ l)

  chain_ends : (k : ℕ) (x : Placed) → is_cause T A p x ≡ true → chain T A p (suc k) x ≡ x ∷ []
  unfolding chain next
  chain_ends k x e = λ i. x ∷ chain_from T A p (unless_cause T A p (e i) λ _. first_needing T A p (followed T A p x)) λ y. chain T A p k y

  chain_goes : (k : ℕ) (x y : Placed) → is_cause T A p x ≡ false → Lowest T A p y (followed T A p x) → chain T A p (suc k) x ≡ x ∷ chain T A p k y
  unfolding chain next
  chain_goes k x y e r =
      (λ i. x ∷ chain_from T A p (unless_cause T A p (e i) λ _. first_needing T A p (followed T A p x)) λ z. chain T A p k z)
      ∙ λ i. x ∷ chain_from T A p (lowest_found r i) λ z. chain T A p k z

  -- with as many terms as a term is high, the search ends at a cause
  pub chain_way : (k : ℕ) (x : Placed) → height_of x ≤ k → needs T A p x ≡ true → Way x (chain T A p k x)
  chain_way zero (placed Γ n c) h e = absurd (omega (arith, positive c))
  chain_way (suc k) x h e = go (λ y. chain_way k y) (is_cause T A p x) refl
    where
      go : ((y : Placed) → height_of y ≤ k → needs T A p y ≡ true → Way y (chain T A p k y)) → (b : Bool) → is_cause T A p x ≡ b → Way x (chain T A p (suc k) x)
      go down true f = subst (Way x) (sym (chain_ends k x f)) (ends e f)
      go down false f =
          let s = progress T A p x e f in
          let y = lowest_of s.among s.needed in
          let l : height_of y.0 ≤ k = omega (arith, child_lower T x y.0 (followed_child x y.0 (lowest_among y.1))) in
          subst (Way x) (sym (chain_goes k x y.0 f y.1)) (goes e f y.1 (down y.0 l (lowest_needs y.1)))

  -- ---- what a derivation says of its chain
  way_starts : {x y : Placed} {l : List Placed} → Way x (y ∷ l) → x ≡ y
  way_starts (ends h f) = refl
  way_starts (goes h f r w) = refl

  pub way_root : {x : Placed} {l : List Placed} → Way x l → (rest : List Placed) × (l ≡ x ∷ rest)
  way_root (ends h f) = ([], refl)
  way_root (goes {l = l} h f r w) = (l, refl)

  pub way_needs : {x z : Placed} {l : List Placed} → Way x l → Among z l → needs T A p z ≡ true
  way_needs (ends h f) among_first = h
  way_needs (ends h f) (among_later m) = elim m [ ]
  way_needs (goes h f r w) among_first = h
  way_needs (goes h f r w) (among_later m) = way_needs w m

  pub way_last : {x z : Placed} {l : List Placed} → Way x l → Last z l → is_cause T A p z ≡ true
  way_last (ends h f) last_alone = f
  way_last (ends h f) (last_later m) = elim m [ ]
  way_last (goes h f r w) last_alone = elim w [ ]
  way_last (goes h f r w) (last_later m) = way_last w m

  -- two neighbours: the first is no cause, and the second is the one that is followed
  pub record Step (x y : Placed) : Type 0 where
    pub no_cause : is_cause T A p x ≡ false
    pub lowest : Lowest T A p y (followed T A p x)

  pub way_step : {x y z : Placed} {l : List Placed} → Way x l → Neighbours y z l → Step y z
  way_step (ends h f) (further m) = elim m [ ]
  way_step (goes {x = x} h f r w) side_by_side = record { no_cause = f; lowest = subst (λ y. Lowest T A p y (followed T A p x)) (way_starts w) r }
  way_step (goes h f r w) (further m) = way_step w m

  pub step_child : {x y : Placed} → Step x y → Among y (children T x)
  step_child {x} {y} s = followed_child x y (lowest_among s.lowest)

  pub way_length : {x : Placed} {l : List Placed} → Way x l → length l ≤ height_of x
  way_length (ends {x = x} h f) = omega (arith, positive_of x)
  way_length (goes {x = x} {y = y} h f r w) = omega (arith, way_length w, child_lower T x y (followed_child x y (lowest_among r)))

  -- if all posts of a term have such a channel and guard, so have those of the chain's last
  pub way_posts : (Q : ℕ → Option ℕ → Type 0) {x z : Placed} {l : List Placed} → Way x l → PostsOf Q x → Last z l → PostsOf Q z
  way_posts Q (ends h f) q last_alone = q
  way_posts Q (ends h f) q (last_later m) = elim m [ ]
  way_posts Q (goes h f r w) q last_alone = elim w [ ]
  way_posts Q (goes {x = x} {y = y} h f r w) q (last_later m) = way_posts Q w (child_posts T Q x y (followed_child x y (lowest_among r)) q) m

  lowest_only : {y z : Placed} {l : List Placed} → Lowest T A p y l → Lowest T A p z l → y ≡ z
  lowest_only (lowest_first h) (lowest_first g) = refl
  lowest_only (lowest_first h) (lowest_later g r) = absurd (true≢false (sym h ∙ g))
  lowest_only (lowest_later h q) (lowest_first g) = absurd (true≢false (sym g ∙ h))
  lowest_only (lowest_later h q) (lowest_later g r) = lowest_only q r

  -- there is one chain only
  pub way_only : {x : Placed} {l m : List Placed} → Way x l → Way x m → l ≡ m
  way_only (ends h f) (ends g e) = refl
  way_only (ends h f) (goes g e r w) = absurd (true≢false (sym f ∙ e))
  way_only (goes h f q v) (ends g e) = absurd (true≢false (sym e ∙ f))
  way_only (goes {x = x} {y = y} h f q v) (goes {l = m} g e r w) = ap (◌∷◌ x) (way_only v (subst (λ z. Way z m) (sym (lowest_only q r)) w))

  -- and what is so is a chain
  pub way_of : (x : Placed) (l : List Placed) → ((z : Placed) → Among z (x ∷ l) → needs T A p z ≡ true)
      → ((z : Placed) → Last z (x ∷ l) → is_cause T A p z ≡ true) → ((y z : Placed) → Neighbours y z (x ∷ l) → is_cause T A p y ≡ true → ⊥)
      → ((y z : Placed) → Neighbours y z (x ∷ l) → Lowest T A p z (followed T A p y)) → Way x (x ∷ l)
  way_of x [] h c f r = ends (h x among_first) (c x last_alone)
  way_of x (y ∷ l) h c f r =
      goes (h x among_first) (false_unless (is_cause T A p x) (f x y side_by_side)) (r x y side_by_side)
      (way_of y l (λ z m. h z (among_later m)) (λ z m. c z (last_later m)) (λ z w m. f z w (further m)) (λ z w m. r z w (further m)))

  -- ---- causes
  held_by_call : (Γ : List ℕ) (n at : ℕ) (f a : Term) (j : Judgement) → infer T A Γ n f ≡ j → in_latent T p j ≡ true → Cause T A p (placed Γ n (call at f a))
  held_by_call Γ n at f a (typed φ N) e h = call_holds e h
  held_by_call Γ n at f a (fault c k) e h = absurd (false≢true h)

  pub cause_holds : (x : Placed) → is_cause T A p x ≡ true → Cause T A p x
  unfolding is_cause
  cause_holds (placed Γ n (boolean at b)) h = absurd (false≢true h)
  cause_holds (placed Γ n (number at k)) h = absurd (false≢true h)
  cause_holds (placed Γ n (variable at i)) h = absurd (false≢true h)
  cause_holds (placed Γ n (function at ty body)) h = absurd (false≢true h)
  cause_holds (placed Γ n (letrec at ty body rest)) h = letrec_holds h
  cause_holds (placed Γ n (call at f a)) h = held_by_call Γ n at f a (infer T A Γ n f) refl h
  cause_holds (placed Γ n (if at c y o)) h = absurd (false≢true h)
  cause_holds (placed Γ n (check at q c)) h = subst (λ r. Cause T A p (placed Γ n (check at r c))) (sym (eqb-true q p h)) check_names
  cause_holds (placed Γ n (enable at q c)) h = absurd (false≢true h)
  cause_holds (placed Γ n (sign at m c)) h = absurd (false≢true h)
  cause_holds (placed Γ n (test at q y o)) h = absurd (false≢true h)
  cause_holds (placed Γ n (binary at op a b)) h = absurd (false≢true h)
  cause_holds (placed Γ n (post at ch none c)) h = absurd (false≢true h)
  cause_holds (placed Γ n (post at ch (some q) c)) h = subst (λ r. Cause T A p (placed Γ n (post at ch (some r) c))) (sym (eqb-true q p h)) post_guarded

  pub holds_cause : {x : Placed} → Cause T A p x → is_cause T A p x ≡ true
  unfolding is_cause
  holds_cause check_names = eq-eqb p p refl
  holds_cause (call_holds e h) = ap (in_latent T p) e ∙ h
  holds_cause (letrec_holds h) = h
  holds_cause post_guarded = eq-eqb p p refl

  -- ---- a test of the privilege
  pub test_followed : (Γ : List ℕ) (n at : ℕ) (y o : Term) (z : Placed) → Lowest T A p z (followed T A p (placed Γ n (test at p y o))) → z ≡ placed Γ n o
  unfolding followed
  test_followed Γ n at y o z r =
      only (subst (λ b. Lowest T A p z (cond b (placed Γ n o ∷ []) (placed Γ n y ∷ placed Γ n o ∷ []))) (eq-eqb p p refl) r)
    where
      only : {w : Placed} → Lowest T A p z (w ∷ []) → z ≡ w
      only (lowest_first h) = refl
      only (lowest_later h m) = elim m [ ]
