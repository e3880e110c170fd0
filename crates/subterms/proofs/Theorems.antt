-- The theorems about the smallest faulty piece, 02, W13: it is as each sentence says, and which of the answers is given when.
use Rattle.std.specs.Prelude.{Bool, true, false, cond, ◌&&◌, ◌||◌, ◌↔◌, ◌≡◌, ℕ, ◌+◌, ◌<◌, ◌≤◌, leb, ltb, length}
use Rattle.std.proofs.Common.{true≢false, ⊎_elim, sym, ap, ◌∙◌, subst, arith}
use mathlib.Core.List.{List, []}
use Rattle.std.proofs.Math.Option.{Option, none, some, none-ne-some}
use Rattle.std.proofs.Math.Path.{refl}
use Rattle.std.proofs.lemmas.Bool.{lt-leb}
use Rattle.program.specs.Layout.{terms, root, authority, types_of}
use Rattle.program.specs.Terms.{tree, program}
use Rattle.program.specs.Screening.{Screening, clear, found, unless_found}
use Rattle.program.specs.Decoding.{decoding, Readable}
use Rattle.program.proofs.Laws.Readable.{well_formed}
use Rattle.program.proofs.Laws.Types.{lower_types}
use Rattle.program.proofs.Laws.Trees.{program_standard}
use Rattle.typing.specs.Places.{placed}
use Rattle.typing.specs.Rules.{current, Derives}
use Rattle.typing.specs.Checking.{Judgement, typed, fault, infer}
use Rattle.typing.specs.Verdicts.{accepted, rejected, concluded, judgement, verdict}
use Rattle.typing.proofs.Laws.Checking.{infer_complete, infer_derives}
use Rattle.typing.proofs.Laws.Faults.{decoding_readers}
use Rattle.subterms.specs.Smallest.{subterms, FaultyTerm, smallest_of, Piece, smallest, no_piece, unreadable, piece_from, piece_of, record_offset, record_length}
use Rattle.subterms.specs.Claims.{by_rules, HasFault, has_fault, Stands, Faulty, SmallestPiece}
use Rattle.subterms.proofs.Laws.Judgements.{ruled}
use Rattle.subterms.proofs.Laws.Numbers.{within_standard}
use Rattle.subterms.proofs.Laws.Pieces.{smallest_piece, root_refused, some_refused}
use Rattle.subterms.proofs.Laws.Standing.{place, once}

-- ---- "each term in the bindings and under the principal it has in the sheet"
-- Every term of a readable sheet stands in it, in bindings and under a principal, and it has no others there.
pub every_term_stands : (s : List ℕ) → Readable s → (u : ℕ) → u < terms s → (Γ : List ℕ) × (n : ℕ) × Stands s Γ n u
every_term_stands s r u l = let p = place s (well_formed s r) u l in (p.bindings, p.principal, p.stands)

pub stands_once : (s : List ℕ) → Readable s → (u : ℕ) (Γ Δ : List ℕ) (n m : ℕ) → Stands s Γ n u → Stands s Δ m u → (Γ ≡ Δ) × (n ≡ m)
stands_once s r u Γ Δ n m v w = once s (well_formed s r) u Γ Δ n m v w

-- "that is refused there": a term is, exactly if the rules give no derivation of it in the bindings and under the principal it has in the sheet.
pub refused_there : (s : List ℕ) → Readable s → (Γ : List ℕ) (n u : ℕ) → Stands s Γ n u
    → Faulty s Γ n u ↔ ((τ N : ℕ) → Derives current (types_of s) (authority s) Γ n (tree s u) τ N → ⊥)
refused_there s r Γ n u v = (forth, λ h. back (infer (types_of s) (authority s) Γ n (tree s u)) refl h)
  where
    forth : Faulty s Γ n u → (τ N : ℕ) → Derives current (types_of s) (authority s) Γ n (tree s u) τ N → ⊥
    forth (has_fault e) τ N d =
        let x = infer_complete (types_of s) (authority s) (lower_types s (well_formed s r)) d in
        absurd (let z : fault _ _ ≡ typed _ _ = sym e ∙ x.is in let y : ◌≡◌ {A = ℕ} 0 1 = cc in omega arith)

    back : (j : Judgement) → infer (types_of s) (authority s) Γ n (tree s u) ≡ j
        → ((τ N : ℕ) → Derives current (types_of s) (authority s) Γ n (tree s u) τ N → ⊥) → Faulty s Γ n u
    back (fault cause at) e h = has_fault e
    back (typed τ N) e h =
        let w = well_formed s r in
        absurd (h τ N (infer_derives (types_of s) (authority s) (lower_types s w) (within_standard (types_of s) v (program_standard s w)) e))

-- ---- which answer is given when
-- "a sheet refused by the rules 9 to 12 or 24 to 26"
pub record RefusedByRules (s : List ℕ) : Type 0 where
  pub cause : ℕ
  pub place : ℕ
  pub verdict_is : verdict s ≡ rejected cause place
  pub by_rules_holds : by_rules cause ≡ true

-- "any other", but for an unreadable one: a readable sheet that is accepted, or refused by another number, which is 13
pub record NotByRules (s : List ℕ) : Type 0 where
  pub readable : Readable s
  pub other : RefusedByRules s → ⊥

-- each answer with what holds where it is given
data PieceGiven (s : List ℕ) : Piece → Type 0 where
  given_smallest : {x : FaultyTerm} → SmallestPiece s x.term x.count x.cause → x.place ≡ x.term → RefusedByRules s
      → PieceGiven s (smallest x.term x.count x.cause x.place)
  given_none : NotByRules s → PieceGiven s no_piece
  given_unreadable : {cause place : ℕ} → decoding s ≡ found cause place → PieceGiven s (unreadable cause place)

-- ---- the verdict on a readable sheet, and whether the root is refused
module _ (s : List ℕ) (r : Readable s) where
  verdict_is : {j : Judgement} → judgement s ≡ j → verdict s ≡ concluded (terms s) (root s) j
  unfolding verdict
  verdict_is e = λ i. unless_found rejected (r i) (λ _. concluded (terms s) (root s) (e i))

  refused_by_rules : HasFault (types_of s) (authority s) (placed [] 0 (program s)) → RefusedByRules s
  refused_by_rules (has_fault {cause} {at} e) = record {
    cause = cause;
    place = at;
    verdict_is = verdict_is e;
    by_rules_holds = ruled (types_of s) (authority s) [] 0 (program s) e;
  }

-- the reader's numbers and 13 are others
reader_other : (cause : ℕ) → cause < 9 → by_rules cause ≡ true → ⊥
reader_other cause l h =
    true≢false (sym h ∙ λ i. (lt-leb 9 cause l i && leb cause 12) || (lt-leb 24 cause (omega arith) i && leb cause 26))

root_faulty : (s : List ℕ) → RefusedByRules s → Readable s × HasFault (types_of s) (authority s) (placed [] 0 (program s))
unfolding verdict
root_faulty s h = screened (decoding s) refl h.verdict_is
  where
    rooted : (b : Bool) (τ N : ℕ) → judgement s ≡ typed τ N → cond b (accepted (terms s) τ N) (rejected 13 (root s)) ≡ rejected h.cause h.place
        → Readable s → Readable s × HasFault (types_of s) (authority s) (placed [] 0 (program s))
    rooted true τ N e f r = absurd (let z : ◌≡◌ {A = ℕ} 0 1 = cc in omega arith)
    rooted false τ N e f r = absurd (let z : 13 ≡ h.cause = cc in true≢false (sym h.by_rules_holds ∙ sym (ap by_rules z)))

    judged : (j : Judgement) → judgement s ≡ j → concluded (terms s) (root s) j ≡ rejected h.cause h.place → Readable s
        → Readable s × HasFault (types_of s) (authority s) (placed [] 0 (program s))
    judged (typed τ N) e f r = rooted (ltb τ 2) τ N e f r
    judged (fault cause at) e f r = (r, has_fault e)

    screened : (d : Screening) → decoding s ≡ d → unless_found rejected d (λ _. concluded (terms s) (root s) (judgement s)) ≡ rejected h.cause h.place
        → Readable s × HasFault (types_of s) (authority s) (placed [] 0 (program s))
    screened clear e f = judged (judgement s) refl f e
    screened (found cause place) e f =
        let z : cause ≡ h.cause = cc in
        let b : by_rules cause ≡ true = ap by_rules z ∙ h.by_rules_holds in
        ⊎_elim (λ l. absurd (reader_other cause l b)) (λ q. absurd (true≢false (sym b ∙ ap by_rules q))) (decoding_readers s cause place e)

module _ (s : List ℕ) where
  given : PieceGiven s (piece_of s)
  unfolding piece_of
  given = screened (decoding s) refl
    where
      listed : Readable s → (o : Option FaultyTerm) → smallest_of (types_of s) (authority s) (subterms (types_of s) [] 0 (program s)) ≡ o
          → PieceGiven s (piece_from o)
      listed r none e = given_none (record {
        readable = r;
        other = λ h. let x = some_refused s (root_faulty s h).1 in none-ne-some x.0 (sym e ∙ x.1);
      })
      listed r (some x) e =
          let h = smallest_piece s e (well_formed s r) in
          given_smallest h.0 h.1 (refused_by_rules s r (root_refused s e (well_formed s r)))

      screened : (d : Screening) → decoding s ≡ d
          → PieceGiven s (unless_found unreadable d λ _. piece_from (smallest_of (types_of s) (authority s) (subterms (types_of s) [] 0 (program s))))
      screened clear e = listed e (smallest_of (types_of s) (authority s) (subterms (types_of s) [] 0 (program s))) refl
      screened (found cause place) e = given_unreadable e

  -- The piece that is told is the smallest one, as each sentence says, and its fault is its own: the place that the rules tell there is the term itself.
  pub smallest_answered : (t count cause place : ℕ) → piece_of s ≡ smallest t count cause place → SmallestPiece s t count cause × (place ≡ t)
  smallest_answered t count cause place e = go (subst (PieceGiven s) e given)
    where
      go : {t count cause place : ℕ} → PieceGiven s (smallest t count cause place) → SmallestPiece s t count cause × (place ≡ t)
      go (given_smallest h p r) = (h, p)

  -- "For a sheet refused by the rules 9 to 12 or 24 to 26 …"
  pub smallest_exactly : ((t : ℕ) × (count : ℕ) × (cause : ℕ) × (place : ℕ) × (piece_of s ≡ smallest t count cause place)) ↔ RefusedByRules s
  unfolding piece_of
  smallest_exactly = (λ e. forth (subst (PieceGiven s) e.4 given), back)
    where
      forth : {t count cause place : ℕ} → PieceGiven s (smallest t count cause place) → RefusedByRules s
      forth (given_smallest h p r) = r

      back : RefusedByRules s → (t : ℕ) × (count : ℕ) × (cause : ℕ) × (place : ℕ) × (piece_of s ≡ smallest t count cause place)
      back h =
          let q = root_faulty s h in
          let x = some_refused s q.1 in
          (x.0.term, x.0.count, x.0.cause, x.0.place, λ i. unless_found unreadable (q.0 i) (λ _. piece_from (x.1 i)))

  -- "An unreadable sheet gets the reader's refusal"
  pub unreadable_exactly : (cause place : ℕ) → (piece_of s ≡ unreadable cause place) ↔ (decoding s ≡ found cause place)
  unfolding piece_of
  unreadable_exactly cause place = (
    λ e. forth (subst (PieceGiven s) e given),
    λ e. λ i. unless_found unreadable (e i) (λ _. piece_from (smallest_of (types_of s) (authority s) (subterms (types_of s) [] 0 (program s)))),
  )
    where
      forth : {cause place : ℕ} → PieceGiven s (unreadable cause place) → decoding s ≡ found cause place
      forth (given_unreadable e) = e

  -- "any other has 'no piece'"
  pub no_piece_exactly : (piece_of s ≡ no_piece) ↔ NotByRules s
  no_piece_exactly = (λ e. forth (subst (PieceGiven s) e given), λ h. back h given)
    where
      forth : PieceGiven s no_piece → NotByRules s
      forth (given_none h) = h

      back : NotByRules s → {a : Piece} → PieceGiven s a → a ≡ no_piece
      back h (given_smallest p q r) = absurd (h.other r)
      back h (given_none g) = refl
      back h (given_unreadable e) = absurd (let z : clear ≡ found _ _ = sym h.readable ∙ e in let y : ◌≡◌ {A = ℕ} 0 1 = cc in omega arith)

  -- The record of the piece lies in the sheet.
  pub record_inside : record_offset s (piece_of s) + record_length (piece_of s) ≤ length s
  record_inside = go given
    where
      go : {a : Piece} → PieceGiven s a → record_offset s a + record_length a ≤ length s
      go (given_smallest h p r) = omega (arith, h.inside, (well_formed s (root_faulty s r).0).terms_inside)
      go (given_none h) = omega arith
      go (given_unreadable e) = omega arith

  -- It begins at byte 65,535 at the latest, since a sheet is shorter, and is eight bytes long or none.
  pub offset_most : record_offset s (piece_of s) ≤ 65535
  offset_most = go given
    where
      go : {a : Piece} → PieceGiven s a → record_offset s a ≤ 65535
      go (given_smallest h p r) =
          let w = well_formed s (root_faulty s r).0 in
          omega (arith, h.inside, w.terms_most, w.types_most, w.principals_most)
      go (given_none h) = omega arith
      go (given_unreadable e) = omega arith

  pub length_most : record_length (piece_of s) ≤ 8
  length_most = go given
    where
      go : {a : Piece} → PieceGiven s a → record_length a ≤ 8
      go (given_smallest h p r) = omega arith
      go (given_none h) = omega arith
      go (given_unreadable e) = omega arith
