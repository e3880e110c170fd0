-- The theorems about an explanation, 02, W7: the chain of an accepted sheet that needs the privilege is as its sentences say, and is the only one; of a
-- version 1 sheet it ends at no post; and which of the answers is given when.
use Rattle.std.specs.Prelude.{Bool, List, ◌∷◌, map, ◌↔◌, ◌⊎◌, ◌≡◌, ℕ, ◌<◌, ◌≤◌, leb, length}
use Rattle.std.proofs.Math.Bool.{true, false}
use Rattle.std.proofs.Common.{true≢false, sym, ap, ◌∙◌, subst, arith, leb-true, leb-false, le-leb}
use Rattle.std.proofs.Math.Logic.{inl, inr}
use Rattle.std.proofs.Math.Option.{Option, none, none-ne-some}
use Rattle.std.proofs.Math.Path.{refl}
use Rattle.std.proofs.lemmas.Bool.{lt-leb}
use Rattle.privileges.specs.Sets.{has}
use Rattle.program.specs.Limits.{max_nesting, max_privilege}
use Rattle.program.specs.Layout.{version, authority, types_of}
use Rattle.program.specs.Terms.{Term, test, post, Plain}
use Rattle.program.proofs.Laws.Readable.{well_formed}
use Rattle.program.proofs.Laws.Nesting.{program_height}
use Rattle.program.proofs.Laws.Types.{lower_types}
use Rattle.program.proofs.Laws.Guards.{program_unguarded}
use Rattle.typing.specs.Verdicts.{Verdict, accepted, rejected, verdict}
use Rattle.typing.proofs.Laws.Checking.{infer_complete}
use Rattle.typing.proofs.Theorems.{Accepted, acceptance}
use Rattle.typing.specs.Places.{Placed, placed, placed_number, children, root_of, Among}
use Rattle.chains.specs.Explaining.{needing, needs, followed, chain, Explained, explained, not_needed, refused, chain_of, explained_if, explained_in, explained_by, explanation}
use Rattle.chains.specs.Chains.{Neighbours, Last, Cause, post_guarded, Lowest}
use Rattle.chains.specs.Laws.Chains.{height_of, Way, chain_way, way_root, way_needs, way_last, way_step, step_child, way_length, way_posts, way_only, way_of, cause_holds, holds_cause, test_followed}

-- ---- what is asked
-- an accepted sheet and a privilege, which is among the needs told or is not
pub record Explainable (s : List ℕ) (p : ℕ) (needed : Bool) : Type 0 where
  pub count : ℕ
  pub type : ℕ
  pub needs : ℕ
  pub acceptance_is : verdict s ≡ accepted count type needs
  pub privilege : p ≤ max_privilege
  pub among : has p needs ≡ needed

abbrev pub Needed : List ℕ → (p : ℕ) → Type 0
Needed s p = Explainable s p true

abbrev pub NotNeeded : List ℕ → (p : ℕ) → Type 0
NotNeeded s p = Explainable s p false

-- ---- the chain
-- "Given an accepted sheet and a privilege, answer a chain of terms from the root": l is one, with what each sentence says of it
pub record Chain (s : List ℕ) (p : ℕ) (l : List Placed) : Type 0 where
  pub from_root : (rest : List Placed) × (l ≡ root_of s ∷ rest)
  -- "Each is a child of the one before"
  pub each_a_child : (x y : Placed) → Neighbours x y l → Among y (children (types_of s) x)
  -- "each has the privilege among its own needs"
  pub each_needs : (x : Placed) → Among x l → needs (types_of s) (authority s) p x ≡ true
  -- "the last is a check that names it, or a call or recursive binder whose latent set holds it"; W8: or a post that it guards
  pub last_a_cause : (x : Placed) → Last x l → Cause (types_of s) (authority s) p x
  -- "a term that is a cause itself ends the chain"
  pub cause_ends : (x y : Placed) → Neighbours x y l → Cause (types_of s) (authority s) p x → ⊥
  -- "Where several children qualify the lowest position is followed"
  pub lowest_position : (x y : Placed) → Neighbours x y l → Lowest (types_of s) (authority s) p y (followed (types_of s) (authority s) p x)
  -- "The yes-branch of a test of that privilege never qualifies": its no-branch comes next
  pub no_branch : (Γ : List ℕ) (n at : ℕ) (y o : Term) (z : Placed) → Neighbours (placed Γ n (test at p y o)) z l → z ≡ placed Γ n o
  -- no longer than a sheet is nested
  pub at_most : length l ≤ max_nesting

-- the rules find the privilege at the root, and the program is at most 32 high
root_needs : (s : List ℕ) (p : ℕ) → Needed s p → needs (types_of s) (authority s) p (root_of s) ≡ true
unfolding needs
root_needs s p h =
    let a = acceptance s h.count h.type h.needs h.acceptance_is in
    let x = infer_complete (types_of s) (authority s) (lower_types s (well_formed s a.readable)) a.needs.derivation in
    ap (needing p) x.is ∙ (a.needs.least h.type x.least x.derives).all p h.among

root_height : (s : List ℕ) (p : ℕ) → Needed s p → height_of (root_of s) ≤ max_nesting
root_height s p h = program_height s (well_formed s (acceptance s h.count h.type h.needs h.acceptance_is).readable)

root_way : (s : List ℕ) (p k : ℕ) → Needed s p → max_nesting ≤ k
    → Way (types_of s) (authority s) p (root_of s) (chain (types_of s) (authority s) p k (root_of s))
root_way s p k h l = chain_way (types_of s) (authority s) p k (root_of s) (omega (arith, root_height s p h)) (root_needs s p h)

-- The chain of an accepted sheet that needs the privilege is as each sentence says.
pub chain_from_root : (s : List ℕ) (p : ℕ) → Needed s p → Chain s p (chain_of s p)
unfolding chain_of
chain_from_root s p h =
    let T = types_of s in
    let A = authority s in
    let w = root_way s p max_nesting h (omega arith) in
    record {
      from_root = way_root T A p w;
      each_a_child = λ x y m. step_child T A p (way_step T A p w m);
      each_needs = λ x m. way_needs T A p w m;
      last_a_cause = λ x m. cause_holds T A p x (way_last T A p w m);
      cause_ends = λ x y m c. true≢false (sym (holds_cause T A p c) ∙ (way_step T A p w m).no_cause);
      lowest_position = λ x y m. (way_step T A p w m).lowest;
      no_branch = λ Γ n at y o z m. test_followed T A p Γ n at y o z (way_step T A p w m).lowest;
      at_most = omega (arith, way_length T A p w, root_height s p h);
    }

-- The bound of 32 terms never cuts the chain: with any other that is as high, it is the same.
pub never_cut : (s : List ℕ) (p : ℕ) → Needed s p → (k : ℕ) → max_nesting ≤ k → chain (types_of s) (authority s) p k (root_of s) ≡ chain_of s p
unfolding chain_of
never_cut s p h k l = way_only (types_of s) (authority s) p (root_way s p k h l) (root_way s p max_nesting h (omega arith))

chain_derives : (s : List ℕ) (p : ℕ) (l : List Placed) → Chain s p l → Way (types_of s) (authority s) p (root_of s) l
chain_derives s p l c =
    let T = types_of s in
    let A = authority s in
    let e = sym c.from_root.1 in
    subst (Way T A p (root_of s)) e
    (way_of T A p (root_of s) c.from_root.0 (λ x m. c.each_needs x (subst (Among x) e m))
    (λ x m. holds_cause T A p (c.last_a_cause x (subst (Last x) e m)))
    (λ x y m f. c.cause_ends x y (subst (Neighbours x y) e m) (cause_holds T A p x f))
    (λ x y m. c.lowest_position x y (subst (Neighbours x y) e m)))

-- The sentences leave no choice: a list of which they hold is the chain.
pub only_chain : (s : List ℕ) (p : ℕ) → Needed s p → (l : List Placed) → Chain s p l → l ≡ chain_of s p
unfolding chain_of
only_chain s p h l c = way_only (types_of s) (authority s) p (chain_derives s p l c) (root_way s p max_nesting h (omega arith))

-- "Version 1 posts on channel 0 without a guard": no chain of a version 1 sheet ends at a post, so that its last term is a cause by W7's sentence.
pub version_1_cause : (s : List ℕ) (p : ℕ) → Needed s p → version s ≡ 1 → (Γ : List ℕ) (n at ch : ℕ) (g : Option ℕ) (c : Term)
    → Last (placed Γ n (post at ch g c)) (chain_of s p) → ⊥
unfolding chain_of
version_1_cause s p h one Γ n at ch g c l =
    let T = types_of s in
    let A = authority s in
    let w = root_way s p max_nesting h (omega arith) in
    let u = program_unguarded s (well_formed s (acceptance s h.count h.type h.needs h.acceptance_is).readable) one in
    unguarded (way_posts T A p Plain w u l).0.1 (cause_holds T A p (placed Γ n (post at ch g c)) (way_last T A p w l))
  where
    unguarded : {g : Option ℕ} → g ≡ none → Cause (types_of s) (authority s) p (placed Γ n (post at ch g c)) → ⊥
    unguarded e post_guarded = none-ne-some p (sym e)

-- ---- which answer is given when
-- "a privilege above 31 is 30"
pub record NoPrivilege (s : List ℕ) (p cause place : ℕ) : Type 0 where
  pub sheet_accepted : Accepted s
  pub above : max_privilege < p
  pub cause_is : cause ≡ 30
  pub place_is : place ≡ 0

-- each answer with what holds where it is given
data ChainGiven (s : List ℕ) (p : ℕ) : Explained → Type 0 where
  given_chain : Needed s p → ChainGiven s p (explained (map placed_number (chain_of s p)))
  given_not_needed : NotNeeded s p → ChainGiven s p not_needed
  given_rejected : {c at : ℕ} → verdict s ≡ rejected c at → ChainGiven s p (refused c at)
  given_no_privilege : Accepted s → max_privilege < p → ChainGiven s p (refused 30 0)

module _ (s : List ℕ) (p : ℕ) where
  given : ChainGiven s p (explanation s p)
  unfolding explanation
  given = judged (verdict s) refl
    where
      needed : (n τ N : ℕ) → verdict s ≡ accepted n τ N → p ≤ max_privilege → (b : Bool) → has p N ≡ b → ChainGiven s p (explained_if s p b)
      needed n τ N e l true h = given_chain (record { count = n; type = τ; needs = N; acceptance_is = e; privilege = l; among = h })
      needed n τ N e l false h = given_not_needed (record { count = n; type = τ; needs = N; acceptance_is = e; privilege = l; among = h })

      low : (n τ N : ℕ) → verdict s ≡ accepted n τ N → (b : Bool) → leb p max_privilege ≡ b → ChainGiven s p (explained_in s p N b)
      low n τ N e true h = needed n τ N e (leb-true p max_privilege h) (has p N) refl
      low n τ N e false h = given_no_privilege (n, τ, N, e) (leb-false p max_privilege h)

      judged : (v : Verdict) → verdict s ≡ v → ChainGiven s p (explained_by s p v)
      judged (accepted n τ N) e = low n τ N e (leb p max_privilege) refl
      judged (rejected c at) e = given_rejected e

  answerable_is : (b : Bool) → Explainable s p b → explanation s p ≡ explained_if s p b
  unfolding explanation
  answerable_is b h =
      (λ i. explained_by s p (h.acceptance_is i)) ∙ (λ i. explained_in s p h.needs (le-leb p max_privilege h.privilege i))
      ∙ λ i. explained_if s p (h.among i)

  -- a chain is answered exactly if the sheet is accepted and needs the privilege; and then it is the chain's numbers
  pub explained_exactly : (terms : List ℕ) → (explanation s p ≡ explained terms) ↔ (Needed s p × (terms ≡ map placed_number (chain_of s p)))
  explained_exactly terms = (λ e. forth (subst (ChainGiven s p) e given), λ h. answerable_is true h.0 ∙ ap explained (sym h.1))
    where
      forth : {terms : List ℕ} → ChainGiven s p (explained terms) → Needed s p × (terms ≡ map placed_number (chain_of s p))
      forth (given_chain h) = (h, refl)

  -- "If the privilege isn't needed the answer says so, and only then."
  pub not_needed_exactly : (explanation s p ≡ not_needed) ↔ NotNeeded s p
  not_needed_exactly = (λ e. forth (subst (ChainGiven s p) e given), λ h. answerable_is false h)
    where
      forth : ChainGiven s p not_needed → NotNeeded s p
      forth (given_not_needed h) = h

  -- "The judge's own refusals come first, and a privilege above 31 is 30."
  pub refused_exactly : (cause place : ℕ) → (explanation s p ≡ refused cause place) ↔ ((verdict s ≡ rejected cause place) ⊎ NoPrivilege s p cause place)
  unfolding explanation
  refused_exactly cause place = (λ e. forth (subst (ChainGiven s p) e given), back)
    where
      forth : {cause place : ℕ} → ChainGiven s p (refused cause place) → (verdict s ≡ rejected cause place) ⊎ NoPrivilege s p cause place
      forth (given_rejected e) = inl e
      forth (given_no_privilege a l) = inr (record { sheet_accepted = a; above = l; cause_is = refl; place_is = refl })

      back : (verdict s ≡ rejected cause place) ⊎ NoPrivilege s p cause place → explanation s p ≡ refused cause place
      back (inl e) = λ i. explained_by s p (e i)
      back (inr h) =
          let a = h.sheet_accepted in
          (λ i. explained_by s p (a.3 i)) ∙ (λ i. explained_in s p a.2 (lt-leb p max_privilege h.above i))
          ∙ λ i. refused (sym h.cause_is i) (sym h.place_is i)

-- The search is never stuck: an accepted sheet that needs the privilege is explained, by the numbers of a chain of which every sentence holds.
pub needed_explained : (s : List ℕ) (p : ℕ) → Needed s p → (l : List Placed) × (explanation s p ≡ explained (map placed_number l)) × Chain s p l
needed_explained s p h = (chain_of s p, (explained_exactly s p (map placed_number (chain_of s p))).1 (h, refl), chain_from_root s p h)
