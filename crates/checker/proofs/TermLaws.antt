-- What judging a term of each kind gives, and what its children ask. Assumes nothing.
use mathlib.Core.Bool.{true}
use mathlib.Core.List.{List, ◌∷◌}
use mathlib.Core.Logic.{◌⊎◌, inl, inr, ⊎_elim}
use mathlib.Core.Path.{◌≡◌, refl, sym, ap, ◌∙◌, subst}
use Prim.Native.Nat.{ℕ, suc, ◌+◌, ◌<◌, ◌≤◌, max}
use native.Mathlib.Nat.{le-max_left, le-max_right, eq-or-lt_of_le}
use native.Mathlib.Omega.{arith}
use lib.Dec.{eqb}
use borrow.Author.Tests.{leb-true, ltb-true}
use Rattle.privileges.specs.Sets.{privilege_count, union, subset}
use Rattle.program.specs.Limits.{max_channels, max_nesting, max_privilege}
use Rattle.program.specs.Layout.{principals, term_at, channels, guard_byte, guard_in, guard_of, authority, types_of}
use Rattle.program.specs.Formats.{Kind, Boolean, Number, Variable, Function, Letrec, Call, If, Check, Enable, Sign, Test, Sum, Difference, Less, Post, kind_of, format}
use Rattle.program.specs.Terms.{node, tree}
use Rattle.program.specs.Decoding.{part_ok, is_guard}
use Rattle.program.specs.Records.{term_at_byte, term_record, type_record, authority_record, guard_record}
use Rattle.program.specs.declared.records.Counts.{Counts}
use Rattle.program.specs.declared.records.TermRecord.{TermRecord}
use Rattle.program.specs.declared.records.TypeRecord.{TypeRecord}
use Rattle.program.proofs.Laws.Readable.{WellFormed}
use Rattle.program.proofs.Laws.Guards.{channels_most}
use Rattle.program.proofs.Laws.Records.{term_is, authority_is, guard_is}
use Rattle.program.proofs.Laws.Trees.{Below, below, parts, tree_node}
use Rattle.typing.specs.Rules.{remove_authorised}
use Rattle.typing.specs.Checking.{Judgement, typed, ◌next◌, require, body_fits, infer}
use Rattle.subtyping.specs.Laws.Records.{TypeParts, type_parts}
use Rattle.typing.specs.Verdicts.{term_judgement}
use Rattle.rules.specs.Inference.{inferred_model, context, binding_depth, binding_depth_at, Ready}
use Rattle.rules.specs.Steps.{Pushed, leaf_step, check_step, enable_step, sign_step, post_step, test_step, if_step, binary_step, body_step, function_step, letrec_step, call_step, binary_result}
use Rattle.checker.specs.Internal.{ReadyTerm, ReadyAt}
use Rattle.std.specs.Prelude.{Result, Ok, Err}
use Rattle.typing.specs.declared.answer.Fault.{Fault}
use Rattle.typing.specs.declared.answer.Typed.{Typed}
use Rattle.rules.specs.declared.bindings.Bindings.{Bindings}

up : {m k : ℕ} → (k ≡ m → ⊥) → m ≤ k → suc m ≤ k
up n h = omega (arith, n)

-- a kind that is none of 3 to 10
pub past_ten : (k : ℕ) → 3 ≤ k → (k ≡ 3 → ⊥) → (k ≡ 4 → ⊥) → (k ≡ 5 → ⊥) → (k ≡ 6 → ⊥) → (k ≡ 7 → ⊥) → (k ≡ 8 → ⊥) → (k ≡ 9 → ⊥) → (k ≡ 10 → ⊥) → 11 ≤ k
past_ten k h n3 n4 n5 n6 n7 n8 n9 n10 = up n10 (up n9 (up n8 (up n7 (up n6 (up n5 (up n4 (up n3 h)))))))

-- one of three numbers from m on
pub three_of : (m k : ℕ) → m ≤ k → k < m + 3 → (k ≡ m) ⊎ ((k ≡ m + 1) ⊎ (k ≡ m + 2))
three_of m k h g =
    ⊎_elim (λ e. inl (sym e)) (λ l. inr (⊎_elim (λ e. inl (omega arith)) (λ l2. inr (omega arith)) (eq-or-lt_of_le {n = m + 1} {m = k} (omega arith))))
    (eq-or-lt_of_le {n = m} {m = k} h)

-- ---- judgements in a row
module _ (k : ℕ → ℕ → Judgement) {J G : Judgement} (q : G ≡ (J next k)) {j : Result Typed Fault} (p : inferred_model j ≡ J) where
  -- a fault ends the judgement
  stops : {f : Fault} {r : Result Typed Fault} → j ≡ Err f → r ≡ Err f → inferred_model r ≡ G
  stops e g = ap inferred_model g ∙ ap (λ (z : Judgement). z next k) (ap inferred_model (sym e) ∙ p) ∙ sym q

  goes : {y : Typed} → j ≡ Ok y → G ≡ k y.ty y.needs
  goes e = q ∙ ap (λ (z : Judgement). z next k) (sym p ∙ ap inferred_model e)

ends : (f : Judgement → Judgement) {J G j r : Judgement} → j ≡ J → G ≡ f J → r ≡ f j → r ≡ G
ends f p q h = h ∙ ap f p ∙ sym q

-- a term that can be judged, once its record has been read
pub read_at : {s : List ℕ} {c : Counts} {l : List ℕ} {t : ℕ} {b : Bindings} {n : ℕ} {x : TermRecord}
    → ReadyTerm s c l t b n → x ≡ term_record s c t → ReadyAt s c l t b n x
read_at r e = record { ready = r.ready; known = r.known; record_is = e }

-- what a child asks, and that it is lower
pub record ChildReady (s : List ℕ) (c : Counts) (t y : ℕ) (b : Bindings) (n : ℕ) : Type 0 where
  pub lower : y < t
  pub ready : Ready s c y b n

module _ {s : List ℕ} {c : Counts} {l : List ℕ} {t : ℕ} {b : Bindings} {n : ℕ} {x : TermRecord} (W : ReadyAt s c l t b n x) where
  well : WellFormed s
  well = W.ready.sheet.well_formed

  parts_are : x ≡ term_at_byte s (term_at s t)
  parts_are = W.record_is ∙ term_is s well c W.ready.sheet.counts t W.ready.inside

  pub kind_most : x.kind ≤ 14
  kind_most = subst (λ (x : TermRecord). x.kind ≤ 14) (sym parts_are) (parts s well t W.ready.inside).kind_ok

  -- ---- the facts of the record, by the name of its kind
  module _ (K : Kind) (e : kind_of x.kind ≡ K) where
    lower_as : Below (format K) t x.first x.second x.third
    lower_as = subst (λ (k : Kind). Below (format k) t x.first x.second x.third) e
        (subst (λ (x : TermRecord). Below (format (kind_of x.kind)) t x.first x.second x.third) (sym parts_are) (below s well t W.ready.inside))

    small_as : part_ok s t (format K).small x.small ≡ true
    small_as = subst (λ (k : Kind). part_ok s t (format k).small x.small ≡ true) e
        (subst (λ (x : TermRecord). part_ok s t (format (kind_of x.kind)).small x.small ≡ true) (sym parts_are)
        (parts s well t W.ready.inside).small_ok)

    first_as : part_ok s t (format K).first x.first ≡ true
    first_as = subst (λ (k : Kind). part_ok s t (format k).first x.first ≡ true) e
        (subst (λ (x : TermRecord). part_ok s t (format (kind_of x.kind)).first x.first ≡ true) (sym parts_are)
        (parts s well t W.ready.inside).first_ok)

    tree_as : tree s t ≡ node (guard_of s) K t x.small x.first x.second x.third (tree s)
    tree_as = subst (λ (x : TermRecord). tree s t ≡ node (guard_of s) (kind_of x.kind) t x.small x.first x.second x.third (tree s)) (sym parts_are)
        (tree_node s well t W.ready.inside)
        ∙ ap (λ (k : Kind). node (guard_of s) k t x.small x.first x.second x.third (tree s)) e

    room_as : binding_depth_at s t ≡ binding_depth (node (guard_of s) K t x.small x.first x.second x.third (tree s))
    unfolding binding_depth_at
    room_as = ap binding_depth tree_as

    inferred_as : (Γ : List ℕ) (n : ℕ) → term_judgement s Γ n t
        ≡ infer (types_of s) (authority s) Γ n (node (guard_of s) K t x.small x.first x.second x.third (tree s))
    unfolding term_judgement
    inferred_as Γ n = ap (infer (types_of s) (authority s) Γ n) tree_as

  named : {k : ℕ} → x.kind ≡ k → kind_of x.kind ≡ kind_of k
  named e = ap kind_of e

  -- ---- children
  child : (y : ℕ) (d : Bindings) (m : ℕ) → m < principals s → y < t → d.len + binding_depth_at s y ≤ max_nesting → ChildReady s c t y d m
  child y d m p h g = record { lower = h; ready = record { sheet = W.ready.sheet; inside = omega (arith, W.ready.inside); principal = p; fits = g } }

  plain : (y : ℕ) → y < t → binding_depth_at s y ≤ binding_depth_at s t → ChildReady s c t y b n
  plain y h g = child y b n W.ready.principal h (omega (arith, W.ready.fits))

  pub check_child : x.kind ≡ 7 → ChildReady s c t x.first b n
  unfolding binding_depth_at
  check_child e = plain x.first ((lower_as Check (named e)).first_below refl) (omega (arith, room_as Check (named e)))

  pub enable_child : x.kind ≡ 8 → ChildReady s c t x.first b n
  unfolding binding_depth_at
  enable_child e = plain x.first ((lower_as Enable (named e)).first_below refl) (omega (arith, room_as Enable (named e)))

  pub sign_principal : x.kind ≡ 9 → x.small < principals s
  sign_principal e = ltb-true x.small (principals s) (small_as Sign (named e))

  pub sign_child : x.kind ≡ 9 → ChildReady s c t x.first b x.small
  unfolding binding_depth_at
  sign_child e = child x.first b x.small (sign_principal e) ((lower_as Sign (named e)).first_below refl)
      (omega (arith, room_as Sign (named e), W.ready.fits))

  pub post_child : x.kind ≡ 14 → ChildReady s c t x.first b n
  unfolding binding_depth_at
  post_child e = plain x.first ((lower_as Post (named e)).first_below refl) (omega (arith, room_as Post (named e)))

  pub check_privilege : x.kind ≡ 7 → x.small < privilege_count
  check_privilege e = omega (arith, leb-true x.small max_privilege (small_as Check (named e)))

  pub enable_privilege : x.kind ≡ 8 → x.small < privilege_count
  enable_privilege e = omega (arith, leb-true x.small max_privilege (small_as Enable (named e)))

  pub test_privilege : x.kind ≡ 10 → x.small < privilege_count
  test_privilege e = omega (arith, leb-true x.small max_privilege (small_as Test (named e)))

  post_channel : x.kind ≡ 14 → x.small < max_channels
  post_channel e = omega (arith, ltb-true x.small (channels s) (small_as Post (named e)), channels_most s)

  -- a post's channel is one of the 16, so that what is read is its guard
  pub post_guard : x.kind ≡ 14 → {g : ℕ} → g ≡ guard_record s c x.small → g ≡ guard_byte s x.small
  post_guard e a = a ∙ guard_is s well c W.ready.sheet.counts x.small (post_channel e)

  pub post_guard_byte : x.kind ≡ 14 → {g : ℕ} → g ≡ guard_record s c x.small → is_guard g ≡ true
  post_guard_byte e a = subst (λ (g : ℕ). is_guard g ≡ true) (sym (post_guard e a)) (well.guard_ok_holds x.small (post_channel e))

  left : (y z : ℕ) → y < t → binding_depth_at s t ≡ max (binding_depth_at s y) (binding_depth_at s z) → ChildReady s c t y b n
  left y z h e = plain y h (omega (arith, e, le-max_left (binding_depth_at s y) (binding_depth_at s z)))

  right : (y z : ℕ) → z < t → binding_depth_at s t ≡ max (binding_depth_at s y) (binding_depth_at s z) → ChildReady s c t z b n
  right y z h e = plain z h (omega (arith, e, le-max_right (binding_depth_at s y) (binding_depth_at s z)))

  pub call_first : x.kind ≡ 5 → ChildReady s c t x.first b n
  unfolding binding_depth_at
  call_first e = left x.first x.second ((lower_as Call (named e)).first_below refl) (room_as Call (named e))

  pub call_second : x.kind ≡ 5 → ChildReady s c t x.second b n
  unfolding binding_depth_at
  call_second e = right x.first x.second ((lower_as Call (named e)).second_below refl) (room_as Call (named e))

  pub test_first : x.kind ≡ 10 → ChildReady s c t x.first b n
  unfolding binding_depth_at
  test_first e = left x.first x.second ((lower_as Test (named e)).first_below refl) (room_as Test (named e))

  pub test_second : x.kind ≡ 10 → ChildReady s c t x.second b n
  unfolding binding_depth_at
  test_second e = right x.first x.second ((lower_as Test (named e)).second_below refl) (room_as Test (named e))

  record Operands : Type 0 where
    first_lower : x.first < t
    second_lower : x.second < t
    most : binding_depth_at s t ≡ max (binding_depth_at s x.first) (binding_depth_at s x.second)

  operands : 11 ≤ x.kind → x.kind < 14 → Operands
  unfolding binding_depth_at
  operands h g = go (three_of 11 x.kind h g)
    where
      go : (x.kind ≡ 11) ⊎ ((x.kind ≡ 12) ⊎ (x.kind ≡ 13)) → Operands
      go (inl e) = record {
        first_lower = (lower_as Sum (named e)).first_below refl;
        second_lower = (lower_as Sum
            (named e)).second_below refl;
        most = room_as Sum (named e);
      }
      go (inr (inl e)) = record {
        first_lower = (lower_as Difference (named e)).first_below refl;
        second_lower = (lower_as Difference
            (named e)).second_below refl;
        most = room_as Difference (named e);
      }
      go (inr (inr e)) = record {
        first_lower = (lower_as Less (named e)).first_below refl;
        second_lower = (lower_as Less
            (named e)).second_below refl;
        most = room_as Less (named e);
      }

  pub binary_first : 11 ≤ x.kind → x.kind < 14 → ChildReady s c t x.first b n
  binary_first h g = let w = operands h g in left x.first x.second w.first_lower w.most

  pub binary_second : 11 ≤ x.kind → x.kind < 14 → ChildReady s c t x.second b n
  binary_second h g = let w = operands h g in right x.first x.second w.second_lower w.most

  pub if_first : x.kind ≡ 6 → ChildReady s c t x.first b n
  unfolding binding_depth_at
  if_first e = plain x.first ((lower_as If (named e)).first_below refl)
      (omega (arith, room_as If (named e), le-max_left (binding_depth_at s x.first) (max (binding_depth_at s x.second) (binding_depth_at s x.third))))

  pub if_second : x.kind ≡ 6 → ChildReady s c t x.second b n
  unfolding binding_depth_at
  if_second e = plain x.second ((lower_as If (named e)).second_below refl)
      (omega (
        arith,
        room_as If (named e),
        le-max_right (binding_depth_at s x.first) (max (binding_depth_at s x.second) (binding_depth_at s x.third)),
        le-max_left
            (binding_depth_at s x.second) (binding_depth_at s x.third),
      ))

  pub if_third : x.kind ≡ 6 → ChildReady s c t x.third b n
  unfolding binding_depth_at
  if_third e = plain x.third ((lower_as If (named e)).third_below refl)
      (omega (
        arith,
        room_as If (named e),
        le-max_right (binding_depth_at s x.first) (max (binding_depth_at s x.second) (binding_depth_at s x.third)),
        le-max_right
            (binding_depth_at s x.second) (binding_depth_at s x.third),
      ))

  -- a function's body has one binding more
  pub function_room : x.kind ≡ 3 → b.len < max_nesting
  unfolding binding_depth_at
  function_room e = omega (arith, room_as Function (named e), W.ready.fits)

  pub function_child : x.kind ≡ 3 → {ty : ℕ} {d : Bindings} → Pushed b ty d → ChildReady s c t x.second d n
  unfolding binding_depth_at
  function_child e {d = d} p = child x.second d n W.ready.principal ((lower_as Function (named e)).second_below refl)
      (omega (arith, room_as Function (named e), W.ready.fits, p.len_is))

  -- a letrec's has two, and the rest one
  body_room : x.kind ≡ 4 → 2 + binding_depth_at s x.second ≤ binding_depth_at s t
  unfolding binding_depth_at
  body_room e = omega (arith, room_as Letrec (named e), le-max_left (2 + binding_depth_at s x.second) (1 + binding_depth_at s x.third))

  rest_room : x.kind ≡ 4 → 1 + binding_depth_at s x.third ≤ binding_depth_at s t
  unfolding binding_depth_at
  rest_room e = omega (arith, room_as Letrec (named e), le-max_right (2 + binding_depth_at s x.second) (1 + binding_depth_at s x.third))

  pub letrec_room : x.kind ≡ 4 → b.len + 1 < max_nesting
  letrec_room e = omega (arith, body_room e, W.ready.fits)

  pub letrec_body : x.kind ≡ 4 → {ty arg : ℕ} {d g : Bindings} → Pushed b ty d → Pushed d arg g → ChildReady s c t x.second g n
  letrec_body e {g = g} p q = child x.second g n W.ready.principal ((lower_as Letrec (named e)).second_below refl)
      (omega (arith, body_room e, W.ready.fits, p.len_is, q.len_is))

  pub letrec_rest : x.kind ≡ 4 → {ty : ℕ} {d : Bindings} → Pushed b ty d → ChildReady s c t x.third d n
  letrec_rest e {d = d} p = child x.third d n W.ready.principal ((lower_as Letrec (named e)).third_below refl)
      (omega (arith, rest_room e, W.ready.fits, p.len_is))

  -- ---- what judging gives
  module _ (Γ : List ℕ) where
    abbrev pub J : ℕ → Judgement
    J y = term_judgement s Γ n y

    pub leaf_is : {r : Judgement} → x.kind < 3 → r ≡ leaf_step x t Γ → r ≡ J t
    unfolding leaf_step infer
    leaf_is h q = q ∙ go (three_of 0 x.kind (omega arith) h)
      where
        go : (x.kind ≡ 0) ⊎ ((x.kind ≡ 1) ⊎ (x.kind ≡ 2)) → leaf_step x t Γ ≡ J t
        go (inl e) = rw e (sym (inferred_as Boolean (named e) Γ n))
        go (inr (inl e)) = rw e (sym (inferred_as Number (named e) Γ n))
        go (inr (inr e)) = rw e (sym (inferred_as Variable (named e) Γ n))

    pub check_as : x.kind ≡ 7 → J t ≡ check_step x.small (J x.first)
    unfolding term_judgement infer check_step
    check_as e = inferred_as Check (named e) Γ n

    pub check_is : x.kind ≡ 7 → {j r : Judgement} → j ≡ J x.first → r ≡ check_step x.small j → r ≡ J t
    check_is e p q = ends (check_step x.small) p (check_as e) q

    pub enable_as : x.kind ≡ 8 → {authorised : ℕ} → authorised ≡ authority_record s n → J t ≡ enable_step authorised x.small (J x.first)
    unfolding term_judgement infer enable_step remove_authorised
    enable_as e a =
        inferred_as Enable (named e) Γ n
        ∙ ap (λ (m : ℕ). enable_step m x.small (J x.first)) (sym (a ∙ authority_is s well n W.ready.principal))

    pub enable_is : x.kind ≡ 8 → {authorised : ℕ} → authorised ≡ authority_record s n → {j r : Judgement} → j ≡ J x.first
        → r ≡ enable_step authorised x.small j → r ≡ J t
    enable_is e {authorised} a p q = ends (enable_step authorised x.small) p (enable_as e a) q

    pub sign_as : x.kind ≡ 9 → {authorised : ℕ} → authorised ≡ authority_record s x.small
        → J t ≡ sign_step authorised t (term_judgement s Γ x.small x.first)
    unfolding term_judgement infer sign_step
    sign_as e a =
        inferred_as Sign (named e) Γ n
        ∙ ap (λ (m : ℕ). sign_step m t (term_judgement s Γ x.small x.first)) (sym (a ∙ authority_is s well x.small (sign_principal e)))

    pub sign_is : x.kind ≡ 9 → {authorised : ℕ} → authorised ≡ authority_record s x.small → {j r : Judgement} → j ≡ term_judgement s Γ x.small x.first
        → r
        ≡ sign_step authorised t j → r ≡ J t
    sign_is e {authorised} a p q = ends (sign_step authorised t) p (sign_as e a) q

    pub post_as : x.kind ≡ 14 → {g : ℕ} → g ≡ guard_record s c x.small → J t ≡ post_step (guard_in g) t (J x.first)
    unfolding term_judgement infer post_step
    post_as e a = inferred_as Post (named e) Γ n ∙ ap (λ (g : ℕ). post_step (guard_in g) t (J x.first)) (sym (post_guard e a))

    pub post_is : x.kind ≡ 14 → {g : ℕ} → g ≡ guard_record s c x.small → {j r : Judgement} → j ≡ J x.first → r ≡ post_step (guard_in g) t j → r ≡ J t
    post_is e {g} a p q = ends (post_step (guard_in g) t) p (post_as e a) q

    -- ---- two children
    abbrev pub test_rest : (τ N : ℕ) → Judgement
    test_rest τ N = test_step (types_of s) x.small t τ N (J x.second)

    pub test_as : x.kind ≡ 10 → J t ≡ (J x.first next test_rest)
    unfolding term_judgement infer test_step
    test_as e = inferred_as Test (named e) Γ n

    pub test_stops : x.kind ≡ 10 → {j r : Result Typed Fault} {f : Fault} → inferred_model j ≡ J x.first → j ≡ Err f → r ≡ Err f → inferred_model r ≡ J t
    test_stops e p h w = stops test_rest (test_as e) p h w

    pub test_is : x.kind ≡ 10 → {j : Result Typed Fault} {y : Typed} → inferred_model j ≡ J x.first → j ≡ Ok y → {k r : Judgement} → k ≡ J x.second
        → r ≡ test_step (types_of s) x.small t y.ty y.needs k → r ≡ J t
    test_is e {y = y} p h q r = ends (test_step (types_of s) x.small t y.ty y.needs) q (goes test_rest (test_as e) p h) r

    abbrev pub call_rest : (φ N : ℕ) → Judgement
    call_rest φ N = call_step (types_of s) t φ N (J x.second)

    pub call_as : x.kind ≡ 5 → J t ≡ (J x.first next call_rest)
    unfolding term_judgement infer call_step
    call_as e = inferred_as Call (named e) Γ n

    pub call_stops : x.kind ≡ 5 → {j r : Result Typed Fault} {f : Fault} → inferred_model j ≡ J x.first → j ≡ Err f → r ≡ Err f → inferred_model r ≡ J t
    call_stops e p h w = stops call_rest (call_as e) p h w

    pub call_is : x.kind ≡ 5 → {j : Result Typed Fault} {y : Typed} → inferred_model j ≡ J x.first → j ≡ Ok y → {k r : Judgement} → k ≡ J x.second
        → r ≡ call_step (types_of s) t y.ty y.needs k → r ≡ J t
    call_is e {y = y} p h q r = ends (call_step (types_of s) t y.ty y.needs) q (goes call_rest (call_as e) p h) r

    abbrev pub binary_rest : (τ N : ℕ) → Judgement
    binary_rest τ N = binary_step (binary_result x.kind) t τ N (J x.second)

    pub binary_as : 11 ≤ x.kind → x.kind < 14 → J t ≡ (J x.first next binary_rest)
    unfolding term_judgement infer binary_step binary_result
    binary_as l u = go (three_of 11 x.kind l u)
      where
        go : (x.kind ≡ 11) ⊎ ((x.kind ≡ 12) ⊎ (x.kind ≡ 13)) → J t ≡ (J x.first next binary_rest)
        go (inl e) = rw e (inferred_as Sum (named e) Γ n)
        go (inr (inl e)) = rw e (inferred_as Difference (named e) Γ n)
        go (inr (inr e)) = rw e (inferred_as Less (named e) Γ n)

    pub binary_stops : 11 ≤ x.kind → x.kind < 14 → {j r : Result Typed Fault} {f : Fault} → inferred_model j ≡ J x.first → j ≡ Err f → r ≡ Err f
        → inferred_model r ≡ J t
    binary_stops l u p h w = stops binary_rest (binary_as l u) p h w

    pub binary_is : 11 ≤ x.kind → x.kind < 14 → {j : Result Typed Fault} {y : Typed} → inferred_model j ≡ J x.first → j ≡ Ok y → {k r : Judgement}
        → k ≡ J x.second → {σ : ℕ} → σ ≡ binary_result x.kind → r ≡ binary_step σ t y.ty y.needs k → r ≡ J t
    binary_is l u {y = y} p h {k} q m r =
        ends (binary_step (binary_result x.kind) t y.ty y.needs) q (goes binary_rest (binary_as l u) p h)
        (r ∙ ap (λ (z : ℕ). binary_step z t y.ty y.needs k) m)

    -- ---- three children
    abbrev pub branch_rest : (σ N τ M : ℕ) → Judgement
    branch_rest σ N τ M = if_step (types_of s) t σ N τ M (J x.third)

    abbrev pub if_rest : (σ N : ℕ) → Judgement
    if_rest σ N = J x.second next branch_rest σ N

    pub if_as : x.kind ≡ 6 → J t ≡ (J x.first next if_rest)
    unfolding term_judgement infer if_step
    if_as e = inferred_as If (named e) Γ n

    pub if_stops : x.kind ≡ 6 → {i r : Result Typed Fault} {f : Fault} → inferred_model i ≡ J x.first → i ≡ Err f → r ≡ Err f → inferred_model r ≡ J t
    if_stops e p h w = stops if_rest (if_as e) p h w

    module _ (e : x.kind ≡ 6) {i : Result Typed Fault} {y : Typed} (p : inferred_model i ≡ J x.first) (h : i ≡ Ok y)
        {j : Result Typed Fault} (q : inferred_model j ≡ J x.second) where
      pub branch_stops : {f : Fault} {r : Result Typed Fault} → j ≡ Err f → r ≡ Err f → inferred_model r ≡ J t
      branch_stops g w = stops (branch_rest y.ty y.needs) (goes if_rest (if_as e) p h) q g w

      pub if_is : {z : Typed} → j ≡ Ok z → {k r : Judgement} → k ≡ J x.third → r ≡ if_step (types_of s) t y.ty y.needs z.ty z.needs k → r ≡ J t
      if_is {z = z} g v r =
          ends (if_step (types_of s) t y.ty y.needs z.ty z.needs) v (goes (branch_rest y.ty y.needs) (goes if_rest (if_as e) p h) q g) r

    -- ---- binders; `inner` and `outer` are the bindings of the body and of the rest
    module _ (f : TypeRecord) (hf : f ≡ type_record s c x.first) (same : context b ≡ Γ) where
      parts_of : (types_of s).is_fun x.first ≡ true → TypeParts s x.first f
      parts_of h = type_parts W.ready.sheet x.first h hf

      -- a body's tests are those of the type's record
      body_as : (types_of s).is_fun x.first ≡ true → (τ N : ℕ) (j : Judgement)
          → body_fits (types_of s) (authority s) t x.first τ N j ≡ body_step f t τ N j
      unfolding body_step
      body_as h τ N j = λ i. require (eqb τ (sym (parts_of h).res_is i)) 10 t (require (subset N (sym (parts_of h).latent_is i)) 12 t j)

      argument_is : (types_of s).is_fun x.first ≡ true → {d inner : Bindings} {Δ : List ℕ} → Pushed d f.arg inner → context d ≡ Δ
          → (types_of s).arg x.first ∷ Δ ≡ context inner
      argument_is h p q = sym (p.context_is ∙ λ i. (parts_of h).arg_is i ∷ q i)

      pub function_step_lem : x.kind ≡ 3 → J t ≡ function_step f x.first t (term_judgement s ((types_of s).arg x.first ∷ Γ) n x.second)
      unfolding term_judgement infer function_step
      function_step_lem e =
          let h : (types_of s).is_fun x.first ≡ true = first_as Function (named e) in
          inferred_as Function (named e) Γ n
          ∙ λ i. term_judgement s ((types_of s).arg x.first ∷ Γ) n x.second next λ τ N. body_as h τ N (typed x.first 0) i

      function_as : x.kind ≡ 3 → {inner : Bindings} → Pushed b f.arg inner → J t
          ≡ function_step f x.first t (term_judgement s (context inner) n x.second)
      function_as e p =
          let h : (types_of s).is_fun x.first ≡ true = first_as Function (named e) in
          function_step_lem e ∙ ap (λ (Δ : List ℕ). function_step f x.first t (term_judgement s Δ n x.second)) (argument_is h p same)

      pub function_is : x.kind ≡ 3 → {inner : Bindings} → Pushed b f.arg inner → {j r : Judgement} → j ≡ term_judgement s (context inner) n x.second
          → r ≡ function_step f x.first t j → r ≡ J t
      function_is e p q r = ends (function_step f x.first t) q (function_as e p) r

      -- a letrec's body and its rest, in the bindings that they have there
      abbrev letrec_then : (body rest : List ℕ) → Judgement
      letrec_then body rest = term_judgement s body n x.second next λ τ N. letrec_step f t τ N (term_judgement s rest n x.third)

      pub letrec_step_lem : x.kind ≡ 4 → J t ≡ letrec_then ((types_of s).arg x.first ∷ x.first ∷ Γ) (x.first ∷ Γ)
      unfolding term_judgement infer letrec_step
      letrec_step_lem e =
          let h : (types_of s).is_fun x.first ≡ true = first_as Letrec (named e) in
          inferred_as Letrec (named e) Γ n
          ∙ λ i. term_judgement s ((types_of s).arg x.first ∷ x.first ∷ Γ) n x.second next λ τ N. term_judgement s (x.first ∷ Γ) n x.third next λ ρ M.
          body_as h τ N (typed ρ (union (sym (parts_of h).latent_is i) M)) i

      module _ (e : x.kind ≡ 4) {outer inner : Bindings} (po : Pushed b x.first outer) (pi : Pushed outer f.arg inner) where
        outer_is : context outer ≡ x.first ∷ Γ
        outer_is = po.context_is ∙ λ i. x.first ∷ same i

        abbrev letrec_after : (τ N : ℕ) → Judgement
        letrec_after τ N = letrec_step f t τ N (term_judgement s (context outer) n x.third)

        letrec_as : J t ≡ (term_judgement s (context inner) n x.second next letrec_after)
        letrec_as = letrec_step_lem e ∙ λ i. letrec_then (argument_is (first_as Letrec (named e)) pi outer_is i) (sym outer_is i)

        pub letrec_stops : {j r : Result Typed Fault} {f : Fault} → inferred_model j ≡ term_judgement s (context inner) n x.second → j ≡ Err f → r ≡ Err f
            → inferred_model r ≡ J t
        letrec_stops p h w = stops letrec_after letrec_as p h w

        pub letrec_is : {j : Result Typed Fault} {y : Typed} → inferred_model j ≡ term_judgement s (context inner) n x.second → j ≡ Ok y
            → {k r : Judgement} → k ≡ term_judgement s (context outer) n x.third → r ≡ letrec_step f t y.ty y.needs k → r ≡ J t
        letrec_is {y = y} p h q r = ends (letrec_step f t y.ty y.needs) q (goes letrec_after letrec_as p h) r
