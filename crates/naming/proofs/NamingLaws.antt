-- Which terms name a privilege, from their records, and the answer from the decoder's. Assumes nothing.
use mathlib.Core.Bool.{Bool, true, false, not}
use mathlib.Core.List.{List, [], ◌∷◌}
use mathlib.Core.Option.{Option}
use mathlib.Core.Path.{◌≡◌, refl, sym, ap, ◌∙◌, subst}
use Prim.Native.Nat.{ℕ, ◌+◌, ◌-◌, ◌<◌, ◌≤◌}
use native.Mathlib.Omega.{arith}
use lib.Dec.{leb, eqb}
use borrow.Author.Tests.{lt-leb, le-leb}
use Rattle.program.specs.Limits.{max_channels, max_privilege}
use Rattle.program.specs.Layout.{terms, term_at, kind_byte, guard_of, guard_in}
use Rattle.program.specs.Formats.{Kind, Boolean, Number, Variable, Function, Letrec, Call, If, Check, Enable, Sign, Test, Sum, Difference, Less, Post, kind_of, format}
use Rattle.program.specs.Terms.{Term, node, tree, contains}
use Rattle.program.specs.Screening.{unless, lowest, refuse_at, screen, unless_found}
use Rattle.program.specs.Decoding.{decoding_conditions, decoding}
use Rattle.program.specs.Records.{term_at_byte, term_record, guard_record}
use Rattle.program.specs.Answers.{decoding_cause, decoding_place, decoded_model}
use Rattle.program.proofs.Laws.Kinds.{number_of_kind, kind_number}
use Rattle.program.proofs.Laws.Screening.{screen_clear, screen_found}
use Rattle.program.proofs.Laws.Search.{lowest_here, lowest_more, lowest_past, lowest_starts}
use Rattle.program.proofs.Laws.Records.{term_is, guard_is}
use Rattle.program.proofs.Laws.Trees.{parts, tree_node}
use Rattle.program.proofs.Laws.Guards.{channel_below, guard_contains}
use Rattle.program.specs.declared.answer.Refusal.{Refusal}
use Rattle.std.specs.Prelude.{Result, Ok, Err}
use Rattle.program.specs.declared.records.Counts.{Counts}
use Rattle.program.specs.declared.records.TermRecord.{TermRecord}
use Rattle.semantics.specs.Names.{named_by, names}
use Rattle.irrelevance.specs.Naming.{Naming, refused, unnamed, named, naming_of, lowest_naming, naming}
use Rattle.naming.specs.Internal.{NamingSheet, NamingTerm}

-- ---- a term of a kind that names none
names_none : (G : ℕ → Option ℕ) (k : Kind) → (number_of_kind k ≡ 7 → ⊥) → (number_of_kind k ≡ 10 → ⊥) → (number_of_kind k ≡ 14 → ⊥)
    → (p t x a b c : ℕ) (f : ℕ → Term)
    → false ≡ contains p (named_by (node G k t x a b c f))
names_none G Boolean n7 n10 n14 p t x a b c f = refl
names_none G Number n7 n10 n14 p t x a b c f = refl
names_none G Variable n7 n10 n14 p t x a b c f = refl
names_none G Function n7 n10 n14 p t x a b c f = refl
names_none G Letrec n7 n10 n14 p t x a b c f = refl
names_none G Call n7 n10 n14 p t x a b c f = refl
names_none G If n7 n10 n14 p t x a b c f = refl
names_none G Check n7 n10 n14 p t x a b c f = absurd (n7 refl)
names_none G Enable n7 n10 n14 p t x a b c f = refl
names_none G Sign n7 n10 n14 p t x a b c f = refl
names_none G Test n7 n10 n14 p t x a b c f = absurd (n10 refl)
names_none G Sum n7 n10 n14 p t x a b c f = refl
names_none G Difference n7 n10 n14 p t x a b c f = refl
names_none G Less n7 n10 n14 p t x a b c f = refl
names_none G Post n7 n10 n14 p t x a b c f = absurd (n14 refl)

-- ---- a term whose record is read
module _ {s : List ℕ} {c : Counts} {p t : ℕ} (R : NamingTerm s c p t) {x : TermRecord} (h : x ≡ term_record s c t) where
  -- the node of its record
  abbrev of : (k : ℕ) → Term
  of k = node (guard_of s) (kind_of k) t x.small x.first x.second x.third (tree s)

  record_is : x ≡ term_at_byte s (term_at s t)
  record_is = h ∙ term_is s R.of_sheet.sheet.well_formed c R.of_sheet.sheet.counts t R.inside

  names_is : (k : ℕ) → x.kind ≡ k → contains p (named_by (of k)) ≡ names s p t
  unfolding names
  names_is k e =
      ap (λ (n : ℕ). contains p (named_by (of n))) (sym e)
      ∙ (λ i. let r = record_is i in contains p (named_by (node (guard_of s) (kind_of r.kind) t r.small r.first r.second r.third (tree s))))
      ∙ ap (λ (z : Term). contains p (named_by z)) (sym (tree_node s R.of_sheet.sheet.well_formed t R.inside))

  pub check_names : x.kind ≡ 7 → eqb x.small p ≡ names s p t
  check_names e = names_is 7 e

  pub test_names : x.kind ≡ 10 → eqb x.small p ≡ names s p t
  test_names e = names_is 10 e

  kind_is : x.kind ≡ kind_byte s t
  kind_is = ap (λ (r : TermRecord). r.kind) record_is

  -- a post's channel is one of the 16, so that what is read is its guard
  channel_in : x.kind ≡ 14 → x.small < max_channels
  channel_in e =
      subst (λ (r : TermRecord). r.small < max_channels) (sym record_is)
      (channel_below s R.of_sheet.sheet.well_formed t R.inside (ap (λ (k : ℕ). (format (kind_of k)).small) (sym kind_is ∙ e)))

  pub post_names : x.kind ≡ 14 → {g : ℕ} → g ≡ guard_record s c x.small → eqb g p ≡ names s p t
  post_names e {g} q =
      guard_contains p g R.of_sheet.privilege
      ∙ ap (λ (g : ℕ). contains p (guard_in g)) (q ∙ guard_is s R.of_sheet.sheet.well_formed c R.of_sheet.sheet.counts x.small (channel_in e))
      ∙ names_is 14 e

  pub no_names : (x.kind ≡ 7 → ⊥) → (x.kind ≡ 10 → ⊥) → (x.kind ≡ 14 → ⊥) → false ≡ names s p t
  no_names n7 n10 n14 =
      let low : x.kind ≤ 14 = omega (arith, kind_is, (parts s R.of_sheet.sheet.well_formed t R.inside).kind_ok) in
      let same : x.kind ≡ number_of_kind (kind_of x.kind) = sym (kind_number x.kind low) in
      names_none (guard_of s) (kind_of x.kind) (λ e. n7 (same ∙ e)) (λ e. n10 (same ∙ e)) (λ e. n14 (same ∙ e)) p t x.small x.first x.second
      x.third (tree s)
      ∙ names_is x.kind refl

-- ---- 30
module _ (s : List ℕ) (p : ℕ) where
  abbrev readable_answer : Bool → Naming
  readable_answer low = unless_found refused (screen (unless 30 low ∷ [])) (λ _. naming_of (lowest_naming s p))

  pub too_high : max_privilege < p → refused 30 0 ≡ readable_answer (leb p max_privilege)
  unfolding screen refuse_at
  too_high h = λ i. readable_answer (sym (lt-leb p max_privilege h) i)

  pub not_above : p ≤ max_privilege → {a : Naming} → a ≡ naming_of (lowest_naming s p) → a ≡ readable_answer (leb p max_privilege)
  unfolding screen refuse_at
  not_above h e = e ∙ λ i. readable_answer (sym (le-leb p max_privilege h) i)

  -- ---- the decoder's answer
  module _ {d : Result Counts Refusal} (m : decoded_model d ≡ decoding s) where
    pub unreadable_naming : {f : Refusal} → d ≡ Err f → refused (decoding_cause f) (decoding_place f) ≡ naming s p
    unfolding naming decoding
    unreadable_naming {f} e = λ i.
        unless_found refused
        (sym (screen_found (decoding_conditions s) (unless 30 (leb p max_privilege) ∷ []) (decoding_cause f) (decoding_place f) (sym m ∙ ap decoded_model e)) i)
        (λ _. naming_of (lowest_naming s p))

    pub readable_naming : {c : Counts} → d ≡ Ok c → {a : Naming} → a ≡ readable_answer (leb p max_privilege) → a ≡ naming s p
    unfolding naming decoding
    readable_naming e h = h ∙ λ i.
        unless_found refused (sym (screen_clear (decoding_conditions s) (unless 30 (leb p max_privilege) ∷ []) (sym m ∙ ap decoded_model e)) i) (λ _. naming_of
        (lowest_naming s p))

-- ---- the search
pub naming_term : {s : List ℕ} {c : Counts} {p t n : ℕ} → NamingSheet s c p → n ≡ terms s → t < n → NamingTerm s c p t
naming_term A e h = record { of_sheet = A; inside = omega (arith, e, h) }

module _ (s : List ℕ) (p : ℕ) where
  abbrev other : ℕ → Bool
  other t = not (names s p t)

  -- the search from t on finds what the whole search finds
  abbrev pub Seeking : (t : ℕ) → Type 0
  Seeking t = lowest_naming s p ≡ lowest other t (terms s - t)

  pub seek_start : Seeking 0
  seek_start = lowest_starts other (terms s)

  module _ {t n : ℕ} (e : n ≡ terms s) (k : Seeking t) where
    pub seek_here : t < n → {b : Bool} → b ≡ names s p t → b ≡ true → named t ≡ naming_of (lowest_naming s p)
    seek_here h q z = ap naming_of (lowest_here other t (terms s) (omega (arith, e, h)) (ap not (sym q ∙ z)) ∙ sym k)

    pub seek_more : t < n → {b : Bool} → b ≡ names s p t → b ≡ false → Seeking (t + 1)
    seek_more h q z = k ∙ lowest_more other t (terms s) (omega (arith, e, h)) (ap not (sym q ∙ z))

    pub seek_past : n ≤ t → unnamed ≡ naming_of (lowest_naming s p)
    seek_past h = ap naming_of (lowest_past other t (terms s) (omega (arith, e, h)) ∙ sym k)
