-- The program of a lean sheet is the old program's erasure.
use Rattle.std.specs.Prelude.{Bool, true, false, not, ◌&&◌, List, ◌≡◌, refl, ℕ, zero, suc, ◌<◌, leb, eqb}
use Rattle.std.proofs.Common.{true≢false, ⊎_elim, sym, ap, ◌∙◌, subst, subst₂, arith}
use Rattle.std.proofs.Math.Option.{Option, none}
use Rattle.std.proofs.Math.Decide.{dec_lt}
use Rattle.std.proofs.lemmas.Bool.{eqb-false, not-true}
use Rattle.privileges.specs.Booleans.{and_left, and_right}
use Rattle.program.specs.Layout.{version, terms, guard_of, root, kind_byte, small, first, second, third}
use Rattle.program.specs.Formats.{Kind, Boolean, Number, Variable, Function, Letrec, Call, If, Check, Enable, Sign, Test, Sum, Difference, Less, Post, kind_of, format}
use Rattle.program.specs.Terms.{Term, post, node, tree, program}
use Rattle.program.specs.Decoding.{format_at, Readable}
use Rattle.program.proofs.Laws.Kinds.{number_of_kind, kind_number}
use Rattle.program.proofs.Laws.Readable.{WellFormed, well_formed}
use Rattle.program.proofs.Laws.Trees.{Below, below, parts, tree_node, root_lower}
use Rattle.program.proofs.Laws.Guards.{without_guards}
use Rattle.erasure.specs.Kept.{kept_below}
use Rattle.erasure.specs.Lean.{new_type, is_erased, kept_term, new_term, new_part, lean_sheet, untested}
use Rattle.erasure.proofs.Laws.Erases.{Erases, e_boolean, e_number, e_variable, e_function, e_letrec, e_call, e_if, e_check, e_enable, e_sign, e_binary, e_post}
use Rattle.erasure.proofs.Laws.Bytes.{same_version, same_principals, terms_are, term_kind, term_small, term_first, term_second, term_third}
use Rattle.erasure.proofs.Laws.Types.{types_renamed}
use Rattle.erasure.proofs.Laws.Terms.{idle_named, idle_kept, idle_child, term_kept, term_idle, term_in, new_root}
use Rattle.erasure.proofs.Laws.Readable.{lean_readable}
use Rattle.erasure.proofs.Laws.Sheets.{Leaner}

-- ---- a sheet without tests
untested_at : (s : List ℕ) (n t : ℕ) → untested s n ≡ true → t < n → kind_byte s t ≡ 10 → ⊥
unfolding untested
untested_at s zero t h l e = omega arith
untested_at s (suc n) t h l e =
    elim (dec_lt t n) [
      | yes m ↦ untested_at s n t (and_right (not (eqb (kind_byte s n) 10)) (untested s n) h) m e
      | no m ↦ let q : n ≡ t = omega arith in
          eqb-false (kind_byte s n) 10 (not-true (eqb (kind_byte s n) 10) (and_left (not (eqb (kind_byte s n) 10)) (untested s n) h)) (ap (kind_byte s) q ∙ e)
    ]

-- ---- one record over related terms
module _ (s : List ℕ) (G G' : ℕ → Option ℕ) (plain : (x : ℕ) → G x ≡ none) (plain' : (x : ℕ) → G' x ≡ none) (f g : ℕ → Term) (t : ℕ)
    (erased : (y : ℕ) → y < t → Erases (new_type s) (new_term s) (f y) (g (new_term s y))) where
  node_erases : (K : Kind) → (K ≡ Check → ⊥) → (K ≡ Enable → ⊥) → (K ≡ Test → ⊥) → (x a b c : ℕ) → Below (format K) t a b c
      → Erases (new_type s) (new_term s) (node G K t x a b c f)
      (node G' K (new_term s t) x (new_part s (format K).first a) (new_part s (format K).second b) (new_part s (format K).third c) g)
  node_erases Boolean n m o x a b c u = e_boolean
  node_erases Number n m o x a b c u = e_number
  node_erases Variable n m o x a b c u = e_variable
  node_erases Function n m o x a b c u = e_function (erased b (u.second_below refl))
  node_erases Letrec n m o x a b c u = e_letrec (erased b (u.second_below refl)) (erased c (u.third_below refl))
  node_erases Call n m o x a b c u = e_call (erased a (u.first_below refl)) (erased b (u.second_below refl))
  node_erases If n m o x a b c u = e_if (erased a (u.first_below refl)) (erased b (u.second_below refl)) (erased c (u.third_below refl))
  node_erases Check n m o x a b c u = absurd (n refl)
  node_erases Enable n m o x a b c u = absurd (m refl)
  node_erases Sign n m o x a b c u = e_sign (erased a (u.first_below refl))
  node_erases Test n m o x a b c u = absurd (o refl)
  node_erases Sum n m o x a b c u = e_binary (erased a (u.first_below refl)) (erased b (u.second_below refl))
  node_erases Difference n m o x a b c u = e_binary (erased a (u.first_below refl)) (erased b (u.second_below refl))
  node_erases Less n m o x a b c u = e_binary (erased a (u.first_below refl)) (erased b (u.second_below refl))
  node_erases Post n m o x a b c u =
      subst₂ (λ (p q : Option ℕ). Erases (new_type s) (new_term s) (post t x p (f a)) (post (new_term s t) x q (g (new_term s a))))
      (sym (plain x)) (sym (plain' x))
      (e_post (erased a (u.first_below refl)))

-- ---- the whole tree
module _ (s : List ℕ) (r : Readable s) (version_1 : version s ≡ 1) (no_test : untested s (terms s) ≡ true) where
  w : WellFormed s
  w = well_formed s r

  w' : WellFormed (lean_sheet s)
  w' = well_formed (lean_sheet s) (lean_readable s r version_1)

  -- a kept term's kind
  kind_is : (t : ℕ) → t < terms s → (K : Kind) → kind_of (kind_byte s t) ≡ K → kind_byte s t ≡ number_of_kind K
  kind_is t l K e = sym (kind_number (kind_byte s t) (parts s w t l).kind_ok) ∙ ap number_of_kind e

  not_idle : (t n : ℕ) → is_erased s t ≡ false → kind_byte s t ≡ n → (leb 7 n && leb n 8) ≡ true → ⊥
  not_idle t n e q h = true≢false (sym h ∙ ap (λ (k : ℕ). leb 7 k && leb k 8) (sym q) ∙ e)

  kept_erases : (t : ℕ) → t < terms s → is_erased s t ≡ false
      → ((y : ℕ) → y < t → Erases (new_type s) (new_term s) (tree s y) (tree (lean_sheet s) (new_term s y)))
      → Erases (new_type s) (new_term s) (tree s t) (tree (lean_sheet s) (new_term s t))
  kept_erases t l e under =
      let k = idle_kept s t e in
      let n : ℕ = kept_below (kept_term s) t in
      let same : n ≡ new_term s t = sym (term_kept s w t k) in
      let new : tree (lean_sheet s) (new_term s t)
      ≡ node (guard_of (lean_sheet s)) (kind_of (kind_byte s t)) (new_term s t) (small s t) (new_part s (format_at s t).first (first s t))
      (new_part s (format_at s t).second (second s t)) (new_part s (format_at s t).third (third s t)) (tree (lean_sheet s)) =
      ap (tree (lean_sheet s)) (sym same) ∙ tree_node (lean_sheet s) w' n (omega (arith, same, term_in s w t l, terms_are s w))
      ∙ λ i. node (guard_of (lean_sheet s)) (kind_of (term_kind s w t k l i)) (same i) (term_small s w t k l i) (term_first s w t k l i)
      (term_second s w t k l i)
      (term_third s w t k l i) (tree (lean_sheet s)) in
      subst₂ (Erases (new_type s) (new_term s)) (sym (tree_node s w t l)) (sym new)
      (node_erases s (guard_of s) (guard_of (lean_sheet s)) (without_guards s version_1).none_guarded
      (without_guards (lean_sheet s) (same_version s w ∙ version_1)).none_guarded (tree s) (tree (lean_sheet s)) t under (kind_of (kind_byte s t))
      (λ q. not_idle t 7 e (kind_is t l Check q) refl) (λ q. not_idle t 8 e (kind_is t l Enable q) refl)
      (λ q. untested_at s (terms s) t no_test l (kind_is t l Test q)) (small s t) (first s t) (second s t) (third s t) (below s w t l))

  idle_erases : (t : ℕ) → t < terms s → is_erased s t ≡ true
      → Erases (new_type s) (new_term s) (tree s (first s t)) (tree (lean_sheet s) (new_term s (first s t)))
      → Erases (new_type s) (new_term s) (tree s t) (tree (lean_sheet s) (new_term s t))
  idle_erases t l e under =
      let at : (K : Kind) → kind_of (kind_byte s t) ≡ K → tree s t ≡ node (guard_of s) K t (small s t) (first s t) (second s t) (third s t) (tree s) =
      λ K q. tree_node s w t l ∙ ap (λ (k : Kind). node (guard_of s) k t (small s t) (first s t) (second s t) (third s t) (tree s)) q in
      let new = ap (tree (lean_sheet s)) (sym (term_idle s w t l e)) in
      ⊎_elim (λ q. subst₂ (Erases (new_type s) (new_term s)) (sym (at Check q)) new (e_check under))
      (λ q. subst₂ (Erases (new_type s) (new_term s)) (sym (at Enable q)) new (e_enable under)) (idle_named s t e)

  tree_erases : (d t : ℕ) → t < d → t < terms s → Erases (new_type s) (new_term s) (tree s t) (tree (lean_sheet s) (new_term s t))
  tree_erases zero t h l = absurd (omega arith)
  tree_erases (suc d) t h l = go (is_erased s t) refl (λ y m. tree_erases d y (omega arith) (omega arith))
    where
      go : (b : Bool) → is_erased s t ≡ b → ((y : ℕ) → y < t → Erases (new_type s) (new_term s) (tree s y) (tree (lean_sheet s) (new_term s y)))
          → Erases (new_type s) (new_term s) (tree s t) (tree (lean_sheet s) (new_term s t))
      go true e under = idle_erases t l e (under (first s t) (idle_child s w t l e))
      go false e under = kept_erases t l e under

  pub lean_is_leaner : Leaner s (lean_sheet s) (new_type s) (new_term s)
  lean_is_leaner = record {
    readable = lean_readable s r version_1;
    renames = types_renamed s w;
    erases = subst (λ (n : ℕ). Erases (new_type s) (new_term s) (program s) (tree (lean_sheet s) n)) (new_root s w)
        (tree_erases (terms s) (root s) (root_lower s w) (root_lower s w));
    root_is = new_root s w;
    same_principals = same_principals s w;
  }
