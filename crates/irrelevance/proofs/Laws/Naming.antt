-- What is told of a sheet and a privilege, case by case.
use Rattle.std.specs.Prelude.{Bool, not, List, ◌≡◌, ℕ}
use Rattle.std.proofs.Common.{true≢false, sym, ap, ◌∙◌, arith}
use Rattle.std.proofs.Math.Option.{Option, none, some}
use Rattle.std.proofs.Math.Path.{refl}
use borrow.Author.Tests.{leb-true, le-leb, not-true, not-false}
use Rattle.program.specs.Limits.{max_privilege}
use Rattle.program.specs.Layout.{terms}
use Rattle.program.specs.Screening.{Screening, clear, found, none_end, none_next, screen, unless_found}
use Rattle.program.specs.Decoding.{decoding_conditions, decoding}
use Rattle.program.proofs.Laws.Screening.{clear_none, none_clear, none_append, append_none, none_cons, unless_none, none_unless, lowest_none, lowest_some, lowest_at}
use Rattle.semantics.specs.Names.{names}
use Rattle.irrelevance.specs.Naming.{refused, lowest_naming, naming_of, naming_conditions, naming}
use Rattle.irrelevance.specs.Claims.{Unnamed, LowestNaming, Answerable}

-- ---- the constructors apart
refused≢naming : {c q : ℕ} {A : Type 0} (o : Option ℕ) → refused c q ≡ naming_of o → A
refused≢naming none e = absurd (let z : ◌≡◌ {A = ℕ} 0 1 = cc in omega (arith, z))
refused≢naming (some t) e = absurd (let z : ◌≡◌ {A = ℕ} 0 1 = cc in omega (arith, z))

naming_injective : (o o' : Option ℕ) → naming_of o ≡ naming_of o' → o ≡ o'
naming_injective none none e = refl
naming_injective none (some t) e = absurd (let z : ◌≡◌ {A = ℕ} 0 1 = cc in omega (arith, z))
naming_injective (some t) none e = absurd (let z : ◌≡◌ {A = ℕ} 0 1 = cc in omega (arith, z))
naming_injective (some t) (some u) e = let z : t ≡ u = cc in ap some z

module _ (s : List ℕ) (p : ℕ) where
  -- ---- the first term that names p
  abbrev other : ℕ → Bool
  other t = not (names s p t)

  pub none_unnamed : lowest_naming s p ≡ none → Unnamed s p
  none_unnamed e = record { by_none = λ t l. not-true (names s p t) (lowest_none other 0 (terms s) e t (omega arith) (omega arith)) }

  pub unnamed_none : Unnamed s p → lowest_naming s p ≡ none
  unnamed_none u = go (lowest_naming s p) refl
    where
      go : (o : Option ℕ) → lowest_naming s p ≡ o → o ≡ none
      go none e = refl
      go (some t) e =
          let l = lowest_some other 0 (terms s) t e in
          absurd (true≢false (sym (not-false (names s p t) l.fails) ∙ u.by_none t (omega (arith, l.inside))))

  pub some_lowest : (t : ℕ) → lowest_naming s p ≡ some t → LowestNaming s p t
  some_lowest t e =
      let l = lowest_some other 0 (terms s) t e in
      record {
        inside = omega (arith, l.inside);
        names_it = not-false (names s p t) l.fails;
        none_lower = λ u h. not-true (names s p u) (l.least u (omega arith) h);
      }

  pub lowest_first : (t : ℕ) → LowestNaming s p t → lowest_naming s p ≡ some t
  lowest_first t l = lowest_at other 0 (terms s) t
      (record { from = omega arith; inside = omega (arith, l.inside); fails = ap not l.names_it; least = λ u g h. ap not (l.none_lower u h) })

  -- ---- the refusals
  pub clear_answerable : screen (naming_conditions s p) ≡ clear → Answerable s p
  unfolding decoding
  clear_answerable e =
      let n = none_append (decoding_conditions s) _ (clear_none (naming_conditions s p) e) in
      record { readable = none_clear n.0; privilege = leb-true p max_privilege (unless_none 30 _ (none_cons n.1).0) }

  pub answerable_clear : Answerable s p → screen (naming_conditions s p) ≡ clear
  unfolding decoding
  answerable_clear a =
      none_clear (append_none (clear_none (decoding_conditions s) a.readable) (none_next (none_unless 30 (le-leb p max_privilege a.privilege)) none_end))

  -- ---- the answer
  pub answerable_naming : Answerable s p → naming s p ≡ naming_of (lowest_naming s p)
  unfolding naming
  answerable_naming a = λ i. unless_found refused (answerable_clear a i) (λ _. naming_of (lowest_naming s p))

  pub naming_answerable : (o : Option ℕ) → naming s p ≡ naming_of o → Answerable s p × (lowest_naming s p ≡ o)
  unfolding naming
  naming_answerable o e = go (screen (naming_conditions s p)) refl e
    where
      go : (z : Screening) → screen (naming_conditions s p) ≡ z → unless_found refused z (λ _. naming_of (lowest_naming s p)) ≡ naming_of o
          → Answerable s p × (lowest_naming s p ≡ o)
      go clear h e = (clear_answerable h, naming_injective (lowest_naming s p) o e)
      go (found c q) h e = refused≢naming o e

  pub found_refused : (c q : ℕ) → screen (naming_conditions s p) ≡ found c q → naming s p ≡ refused c q
  unfolding naming
  found_refused c q e = λ i. unless_found refused (e i) (λ _. naming_of (lowest_naming s p))

  pub refused_found : (c q : ℕ) → naming s p ≡ refused c q → screen (naming_conditions s p) ≡ found c q
  unfolding naming
  refused_found c q e = go (screen (naming_conditions s p)) e
    where
      go : (z : Screening) → unless_found refused z (λ _. naming_of (lowest_naming s p)) ≡ refused c q → z ≡ found c q
      go clear e = refused≢naming (lowest_naming s p) (sym e)
      go (found d r) e = let a : d ≡ c = cc in let b : r ≡ q = cc in λ i. found (a i) (b i)
