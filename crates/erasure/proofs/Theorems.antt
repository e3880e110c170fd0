-- The theorems about erasure: that the lean sheet is read, accepted with the old type and no needs, and runs like the old one; what erasure answers and what
-- it leaves in the buffer; and that types are merged exactly where their records become equal, with the old order kept. Claims.antt says what "like" means.
use Rattle.std.specs.Prelude.{Bool, true, false, ◌&&◌, List, ◌↔◌, ◌≡◌, ℕ, ◌<◌, ◌≤◌, eqb, length, take, drop}
use Rattle.std.proofs.Math.Path.{refl, subst}
use Rattle.std.proofs.Common.{sym, ap, ◌∙◌, arith, length-append, length-drop, eqb-true, leb-true, leb-false}
use Rattle.std.proofs.Math.Dec.{leb}
use Rattle.std.proofs.Math.Seq.{take-append_seam, drop-append_seam}
use Rattle.std.proofs.lemmas.Bool.{lt-leb}
use Rattle.privileges.specs.Booleans.{and_left, and_right}
use Rattle.program.specs.Bytes.{byte}
use Rattle.program.specs.Layout.{version, type_field, types, terms, root, first, types_of}
use Rattle.program.specs.Decoding.{Readable}
use Rattle.program.proofs.Laws.Readable.{WellFormed, well_formed}
use Rattle.typing.specs.Verdicts.{Verdict, accepted, rejected, verdict}
use Rattle.typing.proofs.Theorems.{acceptance}
use Rattle.semantics.specs.Runs.{Request, Buffers, run}
use Rattle.semantics.proofs.Theorems.{Starts}
use Rattle.soundness.specs.Claims.{GrantsSet, Comparable}
use Rattle.erasure.specs.Lean.{kept_type, new_types, new_type, is_erased, kept_term, new_terms, new_term, type_bytes, lean_sheet, untested, erasable}
use Rattle.erasure.specs.Erasure.{ErasureAnswer, refused, lean, if_room, if_erasable, erased, erasure}
use Rattle.erasure.specs.Claims.{RenumberedRun}
use Rattle.erasure.proofs.Laws.Kept.{kept_strict, old_of}
use Rattle.erasure.proofs.Laws.Bytes.{copied, types_are, terms_are, lean_shorter, type_latent, term_kind}
use Rattle.erasure.proofs.Laws.Sheets.{lean_accepted, starts_alike, lean_runs}
use Rattle.erasure.proofs.Laws.Types.{merged_exactly, kept_exactly, number_kept}
use Rattle.erasure.proofs.Laws.Terms.{kept_idle, term_kept, term_idle, new_root}
use Rattle.erasure.proofs.Laws.Programs.{lean_is_leaner}

-- ---- Theorem 1: the lean sheet
-- 02, W9: "a sheet with its checks and enables gone and every latent set empty", with version and principals copied. "The new sheet is accepted with type
-- unchanged and no needs. From a stack that grants the old needs, where neither run is refused, it ends or stops as the old one does, with the same posts and
-- counts under the same allowances and buffers; a stop tells the old term's new number." Each run is of either runner, with checks in force or passed over,
-- whatever the buffers hold and however long a frame store is.
pub record LeanOf (s new : List ℕ) (τ N : ℕ) : Type 0 where
  pub copied_front : (i : ℕ) → i < type_field s → byte new i ≡ byte s i
  pub empty_latent : (t : ℕ) → t < types new → (types_of new).latent t ≡ 0
  pub none_erased : (t : ℕ) → t < terms new → is_erased new t ≡ false
  pub readable : Readable new
  pub accepted_without_needs : verdict new ≡ accepted (new_terms s) τ 0
  -- a run of either is refused where one of the other is
  pub starts : (q : Request) (b : Buffers) → Starts s q b ↔ Starts new q b
  pub runs : (x y : Request) (b d : Buffers) → Comparable x y b d → GrantsSet s x.start N → Starts s x b → Starts new y d
      → RenumberedRun (new_term s) (run s x b) (run new y d)

erasable_version : (s : List ℕ) → erasable s ≡ true → version s ≡ 1
unfolding erasable
erasable_version s h = eqb-true (version s) 1 (and_left (eqb (version s) 1) (untested s (terms s)) h)

erasable_untested : (s : List ℕ) → erasable s ≡ true → untested s (terms s) ≡ true
unfolding erasable
erasable_untested s h = and_right (eqb (version s) 1) (untested s (terms s)) h

module _ (s : List ℕ) (w : WellFormed s) where
  latent_gone : (t : ℕ) → t < types (lean_sheet s) → (types_of (lean_sheet s)).latent t ≡ 0
  unfolding new_types
  latent_gone t h =
      let o = old_of (kept_type s) (types s) t (omega (arith, types_are s w)) in
      subst (λ (x : ℕ). (types_of (lean_sheet s)).latent x ≡ 0) o.number (type_latent s w o.old o.kept o.below)

  idle_left : (t : ℕ) → t < terms (lean_sheet s) → is_erased (lean_sheet s) t ≡ false
  unfolding new_terms
  idle_left t h =
      let o = old_of (kept_term s) (terms s) t (omega (arith, terms_are s w)) in
      subst (λ (x : ℕ). is_erased (lean_sheet s) x ≡ false) o.number
      (ap (λ (k : ℕ). leb 7 k && leb k 8) (term_kind s w o.old o.kept o.below) ∙ kept_idle s o.old o.kept)

pub lean_sheet_lem : (s : List ℕ) (n τ N : ℕ) → verdict s ≡ accepted n τ N → erasable s ≡ true → LeanOf s (lean_sheet s) τ N
lean_sheet_lem s n τ N e h =
    let r = (acceptance s n τ N e).readable in
    let w = well_formed s r in
    let L = lean_is_leaner s r (erasable_version s h) (erasable_untested s h) in
    record {
      copied_front = copied s w;
      empty_latent = latent_gone s w;
      none_erased = idle_left s w;
      readable = L.readable;
      accepted_without_needs = lean_accepted s (lean_sheet s) (new_type s) (new_term s) L n τ N e
          ∙ ap (λ (k : ℕ). accepted k τ 0) (terms_are s w);
      starts = starts_alike s (lean_sheet s) (new_type s) (new_term s) L r;
      runs = λ x y b d c g sx sy. lean_runs s (lean_sheet s) (new_type s) (new_term s) L x y b d c n τ N e g sx sy;
    }

-- A buffer as long as the sheet has room for its lean sheet.
pub never_longer : (s : List ℕ) (n τ N : ℕ) → verdict s ≡ accepted n τ N → length (lean_sheet s) ≤ length s
never_longer s n τ N e = lean_shorter s (well_formed s (acceptance s n τ N e).readable)

-- ---- Theorem 2: what erasure answers
-- A refusal leaves the buffer as it was. Otherwise the sheet was accepted, of version 1 and without tests; its lean sheet stands in the buffer, as long as
-- is told, and the bytes after it are untouched.
pub record Wrote (s buffer after : List ℕ) (n : ℕ) : Type 0 where
  pub old_terms : ℕ
  pub type : ℕ
  pub needs : ℕ
  pub old_accepted : verdict s ≡ accepted old_terms type needs
  pub old_erasable : erasable s ≡ true
  pub length_is : n ≡ length (lean_sheet s)
  pub fits : n ≤ length buffer
  pub written_is : take n after ≡ lean_sheet s
  pub rest_untouched : drop n after ≡ drop n buffer
  pub same_length : length after ≡ length buffer

-- the cause of each refusal: the judge's, then 32, then 33
pub data Refused (s buffer : List ℕ) : (cause place : ℕ) → Type 0 where
  by_checker : {c p : ℕ} → verdict s ≡ rejected c p → Refused s buffer c p
  not_erasable : (n τ N : ℕ) → verdict s ≡ accepted n τ N → erasable s ≡ false → Refused s buffer 32 0
  no_room : (n τ N : ℕ) → verdict s ≡ accepted n τ N → erasable s ≡ true → length buffer < length (lean_sheet s) → Refused s buffer 33 0

abbrev AnswerMeans : (s buffer : List ℕ) → ErasureAnswer → (after : List ℕ) → Type 0
AnswerMeans s b (refused c p) after = Refused s b c p × (after ≡ b)
AnswerMeans s b (lean n) after = Wrote s b after n

module _ (s b : List ℕ) where
  abbrev room : Bool
  room = leb (length (lean_sheet s)) (length b)

  room_means : (n τ N : ℕ) → verdict s ≡ accepted n τ N → erasable s ≡ true → (k : Bool) → room ≡ k
      → AnswerMeans s b (if_room k (lean_sheet s) b).answer (if_room k (lean_sheet s) b).buffer
  room_means n τ N e h true g =
      let l : length (lean_sheet s) ≤ length b = leb-true (length (lean_sheet s)) (length b) g in
      record {
        old_terms = n;
        type = τ;
        needs = N;
        old_accepted = e;
        old_erasable = h;
        length_is = refl;
        fits = l;
        written_is = take-append_seam (lean_sheet s) _;
        rest_untouched = drop-append_seam (lean_sheet s) _;
        same_length = length-append (lean_sheet s) _ ∙ omega (arith, length-drop (length (lean_sheet s)) b);
      }
  room_means n τ N e h false g = (no_room n τ N e h (leb-false (length (lean_sheet s)) (length b) g), refl)

  erasable_means : (n τ N : ℕ) → verdict s ≡ accepted n τ N → (k : Bool) → erasable s ≡ k
      → AnswerMeans s b (if_erasable k room (lean_sheet s) b).answer (if_erasable k room (lean_sheet s) b).buffer
  erasable_means n τ N e true h = room_means n τ N e h room refl
  erasable_means n τ N e false h = (not_erasable n τ N e h, refl)

  verdict_means : (v : Verdict) → verdict s ≡ v → AnswerMeans s b (erased v s b).answer (erased v s b).buffer
  verdict_means (accepted n τ N) e = erasable_means n τ N e (erasable s) refl
  verdict_means (rejected c p) e = (by_checker e, refl)

  answer_means : AnswerMeans s b (erasure s b).answer (erasure s b).buffer
  unfolding erasure
  answer_means = verdict_means (verdict s) refl

  abbrev answer_means_as : (a : ErasureAnswer) → (erasure s b).answer ≡ a → AnswerMeans s b a (erasure s b).buffer
  answer_means_as a e = subst (λ (x : ErasureAnswer). AnswerMeans s b x (erasure s b).buffer) e answer_means

  -- "The judge's refusals come first, then a test or version 2 is 32 and a buffer shorter than the new sheet 33, and the buffer is untouched by any of them."
  pub refused_exactly : (c p : ℕ) → ((erasure s b).answer ≡ refused c p) ↔ Refused s b c p
  unfolding erasure
  refused_exactly c p = (λ e. (answer_means_as (refused c p) e).0, back)
    where
      back : {c p : ℕ} → Refused s b c p → (erasure s b).answer ≡ refused c p
      back (by_checker e) = λ i. (erased (e i) s b).answer
      back (not_erasable n τ N e h) = (λ i. (erased (e i) s b).answer) ∙ λ i. (if_erasable (h i) room (lean_sheet s) b).answer
      back (no_room n τ N e h l) =
          (λ i. (erased (e i) s b).answer) ∙ (λ i. (if_erasable (h i) room (lean_sheet s) b).answer)
          ∙ λ i. (if_room (lt-leb (length (lean_sheet s)) (length b) l i) (lean_sheet s) b).answer

  pub refused_untouched : (c p : ℕ) → (erasure s b).answer ≡ refused c p → (erasure s b).buffer ≡ b
  refused_untouched c p e = (answer_means_as (refused c p) e).1

  -- "The answer tells the new sheet's length, and bytes of the lent buffer after it are untouched."
  pub wrote : (n : ℕ) → (erasure s b).answer ≡ lean n → Wrote s b (erasure s b).buffer n
  wrote n e = answer_means_as (lean n) e

-- So the sheet that stands in the buffer has all that Theorem 1 says.
pub written_sheet : (s b : List ℕ) (n : ℕ) → (e : (erasure s b).answer ≡ lean n)
    → LeanOf s (take n (erasure s b).buffer) (wrote s b n e).type (wrote s b n e).needs
written_sheet s b n e =
    let r = wrote s b n e in
    subst (λ (new : List ℕ). LeanOf s new r.type r.needs) (sym r.written_is)
    (lean_sheet_lem s r.old_terms r.type r.needs r.old_accepted r.old_erasable)

-- ---- Theorem 3: the new numbers
-- "Type records that become equal are merged into the first of them, and types and terms keep their old order." `type_bytes s t` is what the record of t
-- becomes, whether it is kept or not. A check or an enable has its inner term's new number, so that this one stands in its place as a child.
pub record Merging (s : List ℕ) : Type 0 where
  pub merged : (t u : ℕ) → t < types s → u < types s → (type_bytes s t ≡ type_bytes s u) ↔ (new_type s t ≡ new_type s u)
  pub first_kept : (t : ℕ) → t < types s → (kept_type s t ≡ true) ↔ ((u : ℕ) → u < t → type_bytes s u ≡ type_bytes s t → ⊥)
  pub types_in_order : (t u : ℕ) → kept_type s t ≡ true → kept_type s u ≡ true → t < u → new_type s t < new_type s u
  pub terms_in_order : (t u : ℕ) → kept_term s t ≡ true → kept_term s u ≡ true → t < u → new_term s t < new_term s u
  pub inner_stands : (t : ℕ) → t < terms s → is_erased s t ≡ true → new_term s t ≡ new_term s (first s t)
  pub root_last : new_term s (root s) ≡ root (lean_sheet s)

pub merging : (s : List ℕ) → Readable s → Merging s
merging s r =
    let w = well_formed s r in
    record {
      merged = merged_exactly s w;
      first_kept = kept_exactly s w;
      types_in_order = λ t u k g l. omega (arith, number_kept s w t k, number_kept s w u g, kept_strict (kept_type s) t u k l);
      terms_in_order = λ t u k g l. omega (arith, term_kept s w t k, term_kept s w u g, kept_strict (kept_term s) t u k l);
      inner_stands = term_idle s w;
      root_last = new_root s w;
    }
