-- The words of a readable sheet's terms stand for its tree.
use Rattle.std.specs.Prelude.{◌≡◌, refl, true, List, ℕ, zero, suc, ◌<◌, ◌≤◌, ltb, eqb, get_or}
use Rattle.std.proofs.Common.{sym, ◌∙◌, subst, arith, leb-true, ltb-true}
use Rattle.std.proofs.Math.Decide.{ℕ_discrete}
use Rattle.program.specs.Layout.{principals, authority, terms, term_at, channels, guard_byte, guard_in, guard_of, root, kind_byte, small, first, second, third}
use Rattle.program.specs.Formats.{Kind, Boolean, Number, Variable, Function, Letrec, Call, If, Check, Enable, Sign, Test, Sum, Difference, Less, Post, kind_of, format}
use Rattle.program.specs.Terms.{Term, sum, difference, less, post, node, tree_to, program}
use Rattle.program.specs.Records.{CountsOf, term_at_byte, term_record, authority_record, guard_record}
use Rattle.program.specs.Decoding.{part_ok}
use Rattle.program.proofs.Laws.Kinds.{number_of_kind, kind_number}
use Rattle.program.proofs.Laws.Readable.{WellFormed}
use Rattle.program.proofs.Laws.Guards.{channels_most}
use Rattle.program.proofs.Laws.Records.{term_is, authority_is, guard_is}
use Rattle.program.proofs.Laws.Trees.{parts, Below, below, root_lower}
use Rattle.program.specs.declared.records.Counts.{Counts}
use Rattle.semantics.specs.Domains.{Interpretation}
use Rattle.stores.specs.Words.{interval_word}
use Rattle.termtable.specs.Table.{word_kind, word_small, word_first, word_second, word_third, word_authority, word_guard, OwnParts, WordOf}
use Rattle.access.specs.declared.Mode.{Mode}
use Rattle.refinement.proofs.Laws.Codings.{Coding}
use Rattle.refinement.proofs.Laws.Relation.{Fixed, word_at, Represents, on_boolean, on_number, on_variable, on_function, on_letrec, on_call, on_if, on_check, on_enable, on_sign, on_test, on_binary, on_post}

flag_is : (n : ℕ) → n ≤ 1 → ltb 0 n ≡ eqb n 1
flag_is zero h = refl
flag_is (suc zero) h = refl
flag_is (suc (suc n)) h = absurd (omega arith)

-- what stays in a run of a sheet
abbrev pub fixed_of : (I : Interpretation) {mode : Mode} → Coding I.domain mode → (s table posts noted : List ℕ) → Fixed
fixed_of I {mode} K s table posts noted =
    record { interpretation = I; terms = table; authorised = authority s; posts = posts; noted = noted; mode = mode; coding = K }

-- the words of a sheet's terms: as decoded, but that of a number term stands for what the term is interpreted as
pub record Tabled (I : Interpretation) {mode : Mode} (K : Coding I.domain mode) (s : List ℕ) (c : Counts) (table : List ℕ) : Type 0 where
  pub others : (t : ℕ) → t < terms s → (kind_byte s t ≡ 1 → ⊥) → WordOf s c t (get_or table t 0)
  pub number_kind : (t : ℕ) → t < terms s → kind_byte s t ≡ 1 → word_kind (get_or table t 0) ≡ 1
  pub number_coded : (t : ℕ) → t < terms s → kind_byte s t ≡ 1
      → K.Number (interval_word (word_first (get_or table t 0)) (word_second (get_or table t 0))) (I.literal t (first s t))

module _ (I : Interpretation) {mode : Mode} (K : Coding I.domain mode) (s : List ℕ) (w : WellFormed s) (c : Counts) (counts_are : CountsOf s c)
    (table : List ℕ) (tabled : Tabled I K s c table) (posts noted : List ℕ) where
  abbrev run : Fixed
  run = fixed_of I K s table posts noted

  module _ (t : ℕ) (sub : ℕ → Term) (h : (x : ℕ) → x < t → Represents run x (sub x)) where
    abbrev x : ℕ
    x = word_at run t

    -- a term of this kind with these parts, of which the small one is in range
    abbrev StandsBy : Kind → (n a b c : ℕ) → Type 0
    StandsBy k n a b c = Below (format k) t a b c → part_ok s t (format k).small n ≡ true → Represents run t (node (guard_of s) k t n a b c sub)

    -- of a kind other than number
    module _ (hold : WordOf s c t x) (other : word_kind x ≡ 1 → ⊥) where
      authority_same : word_kind x ≡ 9 → word_small x < principals s → word_authority x ≡ authority s (word_small x)
      authority_same e l =
          hold.authority_is (sym hold.kind_is ∙ e) ∙ (λ i. authority_record s (sym hold.small_is i)) ∙ authority_is s w (word_small x) l

      -- a sign's second and third are not looked at
      sign_stands : word_kind x ≡ 9 → (b c : ℕ) → StandsBy Sign (word_small x) (word_first x) b c
      sign_stands e b c v i = on_sign e (authority_same e (ltb-true (word_small x) (principals s) i)) (v.first_below refl) (h _ (v.first_below refl))

      guard_same : word_kind x ≡ 14 → word_small x < channels s → word_guard x ≡ guard_byte s (word_small x)
      guard_same e l =
          hold.guard_is (sym hold.kind_is ∙ e) ∙ (λ i. guard_record s c (sym hold.small_is i))
          ∙ guard_is s w c counts_are (word_small x) (omega (arith, channels_most s))

      -- nor a post's
      post_stands : word_kind x ≡ 14 → (b c : ℕ) → StandsBy Post (word_small x) (word_first x) b c
      post_stands e b c v i =
          subst (λ g. Represents run t (post t (word_small x) (guard_in g) (sub (word_first x)))) (guard_same e (ltb-true (word_small x) (channels s) i))
          (on_post e (v.first_below refl) (h _ (v.first_below refl)))

      node_stands : (k : Kind) → word_kind x ≡ number_of_kind k → StandsBy k (word_small x) (word_first x) (word_second x) (word_third x)
      node_stands Boolean e v i = on_boolean e (flag_is (word_small x) (leb-true (word_small x) 1 i))
      node_stands Number e v i = absurd (other e)
      node_stands Variable e v i = on_variable e
      node_stands Function e v i = on_function e (v.second_below refl) (h _ (v.second_below refl))
      node_stands Letrec e v i = on_letrec e (v.second_below refl) (v.third_below refl) (h _ (v.second_below refl)) (h _ (v.third_below refl))
      node_stands Call e v i = on_call e (v.first_below refl) (v.second_below refl) (h _ (v.first_below refl)) (h _ (v.second_below refl))
      node_stands If e v i =
          on_if e (v.first_below refl) (v.second_below refl) (v.third_below refl) (h _ (v.first_below refl)) (h _ (v.second_below refl))
          (h _ (v.third_below refl))
      node_stands Check e v i = on_check e (v.first_below refl) (h _ (v.first_below refl))
      node_stands Enable e v i = on_enable e (v.first_below refl) (h _ (v.first_below refl))
      node_stands Sign e v i = sign_stands e (word_second x) (word_third x) v i
      node_stands Test e v i = on_test e (v.first_below refl) (v.second_below refl) (h _ (v.first_below refl)) (h _ (v.second_below refl))
      node_stands Sum e v i = on_binary sum e (v.first_below refl) (v.second_below refl) (h _ (v.first_below refl)) (h _ (v.second_below refl))
      node_stands Difference e v i =
          on_binary difference e (v.first_below refl) (v.second_below refl) (h _ (v.first_below refl)) (h _ (v.second_below refl))
      node_stands Less e v i = on_binary less e (v.first_below refl) (v.second_below refl) (h _ (v.first_below refl)) (h _ (v.second_below refl))
      node_stands Post e v i = post_stands e (word_second x) (word_third x) v i

    -- the same of the parts in the sheet
    other_stands : t < terms s → (kind_byte s t ≡ 1 → ⊥) → StandsBy (kind_of (kind_byte s t)) (small s t) (first s t) (second s t) (third s t)
    other_stands l other =
        subst (λ n. StandsBy k n (first s t) (second s t) (third s t)) (hold.small_is ∙ (λ i. (laid i).small))
        (subst (λ n. StandsBy k (word_small x) n (second s t) (third s t)) (hold.first_is ∙ (λ i. (laid i).first))
        (go (ℕ_discrete (kind_byte s t) 9) (ℕ_discrete (kind_byte s t) 14)))
      where
        k : Kind
        k = kind_of (kind_byte s t)

        hold : WordOf s c t x
        hold = tabled.others t l other

        laid : term_record s c t ≡ term_at_byte s (term_at s t)
        laid = term_is s w c counts_are t l

        kind_same : word_kind x ≡ kind_byte s t
        kind_same = hold.kind_is ∙ (λ i. (laid i).kind)

        no_number : word_kind x ≡ 1 → ⊥
        no_number e = other (sym kind_same ∙ e)

        -- of a kind that does not look at second and third
        alone : (j : ℕ) → kind_byte s t ≡ j → StandsBy (kind_of j) (word_small x) (word_first x) (second s t) (third s t)
            → StandsBy k (word_small x) (word_first x) (second s t) (third s t)
        alone j e = subst (λ n. StandsBy (kind_of n) (word_small x) (word_first x) (second s t) (third s t)) (sym e)

        go : Dec (kind_byte s t ≡ 9) → Dec (kind_byte s t ≡ 14) → StandsBy k (word_small x) (word_first x) (second s t) (third s t)
        go (yes e) d = alone 9 e (sign_stands hold no_number (kind_same ∙ e) (second s t) (third s t))
        go (no n) (yes e) = alone 14 e (post_stands hold no_number (kind_same ∙ e) (second s t) (third s t))
        go (no n) (no m) =
            let at : (term_record s c t).kind ≡ kind_byte s t = λ i. (laid i).kind in
            let plain : OwnParts (term_record s c t).kind = record { no_sign = λ g. n (sym at ∙ g); no_post = λ g. m (sym at ∙ g) } in
            subst (λ n. StandsBy k (word_small x) (word_first x) n (third s t)) (hold.second_is plain ∙ (λ i. (laid i).second))
            (subst (λ n. StandsBy k (word_small x) (word_first x) (word_second x) n) (hold.third_is plain ∙ (λ i. (laid i).third))
            (node_stands hold no_number k (kind_same ∙ sym (kind_number (kind_byte s t) (parts s w t l).kind_ok))))

    record_stands : t < terms s → StandsBy (kind_of (kind_byte s t)) (small s t) (first s t) (second s t) (third s t)
    record_stands l = go (ℕ_discrete (kind_byte s t) 1)
      where
        go : Dec (kind_byte s t ≡ 1) → StandsBy (kind_of (kind_byte s t)) (small s t) (first s t) (second s t) (third s t)
        go (yes e) =
            subst (λ n. StandsBy (kind_of n) (small s t) (first s t) (second s t) (third s t)) (sym e)
            (λ v i. on_number (tabled.number_kind t l e) (tabled.number_coded t l e))
        go (no n) = other_stands l n

  tree_stands : (k t : ℕ) → t < terms s → t < k → Represents run t (tree_to s k t)
  tree_stands zero t l h = absurd (omega arith)
  tree_stands (suc k) t l h =
      record_stands t (λ y. tree_to s k y) (λ y g. tree_stands k y (omega arith) (omega arith)) l (below s w t l)
      (parts s w t l).small_ok

  pub program_stands : Represents run (root s) (program s)
  program_stands = tree_stands (suc (root s)) (root s) (root_lower s w) (omega arith)
