-- `infer` and the function of each kind give `term_judgement`: children are judged in order, a fault ends it, and the rest is the kind's step (TermLaws).
-- There is room for a child's bindings: a function's body has one more, a letrec's body two and its rest one. What is known of the types is handed from
-- one child to the next. What falls is 2 * t + 1 for `infer` and 2 * t for the others: `infer` calls the function of a kind at the same term t, and that
-- calls `infer` at a child, which is lower.
use native.Mathlib.Omega.{arith}
use mathlib.Core.Path.{refl}
use Rattle.std.proofs.Common.{rules}
use Rattle.checker.proofs.TermLaws.{read_at, kind_most, check_child, enable_child, sign_child, post_child, post_guard_byte, check_privilege, enable_privilege, test_privilege, call_first, call_second, test_first, test_second, binary_first, binary_second, if_first, if_second, if_third, function_room, function_child, letrec_room, letrec_body, letrec_rest}
use Rattle.checker.proofs.TermLaws.{leaf_is, check_is, enable_is, sign_is, post_is, test_stops, test_is, call_stops, call_is, binary_stops, binary_is, if_stops, branch_stops, if_is, function_is, letrec_stops, letrec_is}
use Rattle.checker.proofs.infer.+inference.Goals as goal

pub infer-infer_function-requires : goal.infer-infer_function-requires
infer-infer_function-requires t c = (
  omega (arith, c.decreases),
  record {
    at = read_at c.requires c.table_term-x.ensures;
    kind_is = c.in-3.is;
  },
)

pub infer-infer_letrec-requires : goal.infer-infer_letrec-requires
infer-infer_letrec-requires t c = (
  omega (arith, c.decreases),
  record {
    at = read_at c.requires c.table_term-x.ensures;
    kind_is = c.in-4.is;
  },
)

pub infer-infer_call-requires : goal.infer-infer_call-requires
infer-infer_call-requires t c = (
  omega (arith, c.decreases),
  record {
    at = read_at c.requires c.table_term-x.ensures;
    kind_is = c.in-5.is;
  },
)

pub infer-infer_if-requires : goal.infer-infer_if-requires
infer-infer_if-requires t c = (
  omega (arith, c.decreases),
  record {
    at = read_at c.requires c.table_term-x.ensures;
    kind_is = c.in-6.is;
  },
)

pub infer-infer_check-requires : goal.infer-infer_check-requires
infer-infer_check-requires t c = (
  omega (arith, c.decreases),
  record {
    at = read_at c.requires c.table_term-x.ensures;
    kind_is = c.in-7.is;
  },
)

pub infer-infer_enable-requires : goal.infer-infer_enable-requires
infer-infer_enable-requires t c = (
  omega (arith, c.decreases),
  record {
    at = read_at c.requires c.table_term-x.ensures;
    kind_is = c.in-8.is;
  },
)

pub infer-infer_sign-requires : goal.infer-infer_sign-requires
infer-infer_sign-requires t c = (
  omega (arith, c.decreases),
  record {
    at = read_at c.requires c.table_term-x.ensures;
    kind_is = c.in-9.is;
  },
)

pub infer-infer_test-requires : goal.infer-infer_test-requires
infer-infer_test-requires t c = (
  omega (arith, c.decreases),
  record {
    at = read_at c.requires c.table_term-x.ensures;
    kind_is = c.in-10.is;
  },
)

pub infer-infer_binary-requires : goal.infer-infer_binary-requires
infer-infer_binary-requires t c = (
  omega (arith, c.decreases),
  record {
    at = read_at c.requires c.table_term-x.ensures;
    kind_least = omega arith;
    kind_most = omega arith;
  },
)

pub infer-infer_post-requires : goal.infer-infer_post-requires
infer-infer_post-requires t c =
    let h = kind_most (read_at c.requires c.table_term-x.ensures) in (
      omega (arith, c.decreases),
      record { at = read_at c.requires c.table_term-x.ensures; kind_is = omega (arith, h) },
    )

pub infer-returns-in-0-to-2 : goal.infer-returns-in-0-to-2
infer-returns-in-0-to-2 t c =
    record {
      is = leaf_is (read_at c.requires c.table_term-x.ensures) _
          (omega arith) c.leaf.ensures;
      known = c.requires.known;
    }

pub infer_binary-infer-requires : goal.infer_binary-infer-requires
infer_binary-infer-requires t c =
    let h = binary_first c.requires.at c.requires.kind_least c.requires.kind_most in
    (omega (arith, c.decreases, h.lower), record { ready = h.ready; known = c.requires.at.known })

pub infer_binary-returns-in_err-first : goal.infer_binary-returns-in_err-first
infer_binary-returns-in_err-first t c =
    record {
      is = binary_stops c.requires.at _ c.requires.kind_least c.requires.kind_most c.infer.ensures.is
          c.in_err-first.was (search rules);
      known = c.infer.ensures.known;
    }

pub infer_binary-infer-second-requires : goal.infer_binary-infer-second-requires
infer_binary-infer-second-requires t c =
    let h = binary_second c.requires.at c.requires.kind_least c.requires.kind_most in
    (omega (arith, c.decreases, h.lower), record { ready = h.ready; known = c.infer.ensures.known })

pub infer_binary-returns : goal.infer_binary-returns
infer_binary-returns t c =
    record {
      is = binary_is c.requires.at _ c.requires.kind_least c.requires.kind_most c.infer.ensures.is c.in_ok-first.was
          c.infer-second.ensures.is c.binary_result-result.ensures c.computed.ensures;
      known = c.infer-second.ensures.known;
    }

pub infer_call-infer-requires : goal.infer_call-infer-requires
infer_call-infer-requires t c =
    let h = call_first c.requires.at c.requires.kind_is in
    (omega (arith, c.decreases, h.lower), record { ready = h.ready; known = c.requires.at.known })

pub infer_call-returns-in_err-function : goal.infer_call-returns-in_err-function
infer_call-returns-in_err-function t c =
    record {
      is = call_stops c.requires.at _ c.requires.kind_is c.infer.ensures.is
          c.in_err-function.was (search rules);
      known = c.infer.ensures.known;
    }

pub infer_call-infer-argument-requires : goal.infer_call-infer-argument-requires
infer_call-infer-argument-requires t c =
    let h = call_second c.requires.at c.requires.kind_is in
    (omega (arith, c.decreases, h.lower), record { ready = h.ready; known = c.infer.ensures.known })

pub infer_call-returns : goal.infer_call-returns
infer_call-returns t c =
    record {
      is = call_is c.requires.at _ c.requires.kind_is c.infer.ensures.is c.in_ok-function.was c.infer-argument.ensures.is
          c.call_of.ensures.is;
      known = c.call_of.ensures.known;
    }

pub infer_check-infer-j-requires : goal.infer_check-infer-j-requires
infer_check-infer-j-requires t c =
    let h = check_child c.requires.at c.requires.kind_is in
    (omega (arith, c.decreases, h.lower), record { ready = h.ready; known = c.requires.at.known })

pub infer_check-checked-requires : goal.infer_check-checked-requires
infer_check-checked-requires t c = check_privilege c.requires.at c.requires.kind_is

pub infer_check-returns : goal.infer_check-returns
infer_check-returns t c =
    record {
      is = check_is c.requires.at _ c.requires.kind_is c.infer-j.ensures.is
          c.checked.ensures;
      known = c.infer-j.ensures.known;
    }

pub infer_enable-infer-j-requires : goal.infer_enable-infer-j-requires
infer_enable-infer-j-requires t c =
    let h = enable_child c.requires.at c.requires.kind_is in
    (omega (arith, c.decreases, h.lower), record { ready = h.ready; known = c.requires.at.known })

pub infer_enable-enabled-requires : goal.infer_enable-enabled-requires
infer_enable-enabled-requires t c = enable_privilege c.requires.at c.requires.kind_is

pub infer_enable-returns : goal.infer_enable-returns
infer_enable-returns t c =
    record {
      is = enable_is c.requires.at _ c.requires.kind_is c.authority-authorised.ensures c.infer-j.ensures.is
          c.enabled.ensures;
      known = c.infer-j.ensures.known;
    }

pub infer_function-push-inner-requires : goal.infer_function-push-inner-requires
infer_function-push-inner-requires t c = function_room c.requires.at c.requires.kind_is

pub infer_function-infer-j-requires : goal.infer_function-infer-j-requires
infer_function-infer-j-requires t c =
    let h = function_child c.requires.at c.requires.kind_is c.push-inner.ensures in
    (omega (arith, c.decreases, h.lower), record { ready = h.ready; known = c.requires.at.known })

pub infer_function-returns : goal.infer_function-returns
infer_function-returns t c =
    record {
      is = function_is c.requires.at _ _ c.type_record-f.ensures refl c.requires.kind_is c.push-inner.ensures
          c.infer-j.ensures.is c.function_of.ensures;
      known = c.infer-j.ensures.known;
    }

pub infer_if-infer-requires : goal.infer_if-infer-requires
infer_if-infer-requires t c =
    let h = if_first c.requires.at c.requires.kind_is in
    (omega (arith, c.decreases, h.lower), record { ready = h.ready; known = c.requires.at.known })

pub infer_if-returns-in_err-condition : goal.infer_if-returns-in_err-condition
infer_if-returns-in_err-condition t c =
    record {
      is = if_stops c.requires.at _ c.requires.kind_is c.infer.ensures.is
          c.in_err-condition.was (search rules);
      known = c.infer.ensures.known;
    }

pub infer_if-infer-requires-2 : goal.infer_if-infer-requires-2
infer_if-infer-requires-2 t c =
    let h = if_second c.requires.at c.requires.kind_is in
    (omega (arith, c.decreases, h.lower), record { ready = h.ready; known = c.infer.ensures.known })

pub infer_if-returns-in_err-first : goal.infer_if-returns-in_err-first
infer_if-returns-in_err-first t c =
    record {
      is = branch_stops c.requires.at _ c.requires.kind_is c.infer.ensures.is c.in_ok-condition.was c.infer-2.ensures.is c.in_err-first.was (search rules);
      known = c.infer-2.ensures.known;
    }

pub infer_if-infer-second-requires : goal.infer_if-infer-second-requires
infer_if-infer-second-requires t c =
    let h = if_third c.requires.at c.requires.kind_is in
    (omega (arith, c.decreases, h.lower), record { ready = h.ready; known = c.infer-2.ensures.known })

pub infer_if-returns : goal.infer_if-returns
infer_if-returns t c =
    record {
      is = if_is c.requires.at _ c.requires.kind_is c.infer.ensures.is c.in_ok-condition.was
          c.infer-2.ensures.is c.in_ok-first.was c.infer-second.ensures.is c.branched.ensures.is;
      known = c.branched.ensures.known;
    }

pub infer_letrec-push-outer-requires : goal.infer_letrec-push-outer-requires
infer_letrec-push-outer-requires t c = let h = letrec_room c.requires.at c.requires.kind_is in omega arith

pub infer_letrec-push-inner-requires : goal.infer_letrec-push-inner-requires
infer_letrec-push-inner-requires t c = let h = letrec_room c.requires.at c.requires.kind_is in omega (arith, c.push-outer.ensures.len_is)

pub infer_letrec-infer-requires : goal.infer_letrec-infer-requires
infer_letrec-infer-requires t c =
    let h = letrec_body c.requires.at c.requires.kind_is c.push-outer.ensures c.push-inner.ensures in
    (omega (arith, c.decreases, h.lower), record { ready = h.ready; known = c.requires.at.known })

pub infer_letrec-returns-in_err-body : goal.infer_letrec-returns-in_err-body
infer_letrec-returns-in_err-body t c =
    record {
      is = letrec_stops c.requires.at _ _ c.type_record-f.ensures refl c.requires.kind_is c.push-outer.ensures
          c.push-inner.ensures c.infer.ensures.is c.in_err-body.was (search rules);
      known = c.infer.ensures.known;
    }

pub infer_letrec-infer-rest-requires : goal.infer_letrec-infer-rest-requires
infer_letrec-infer-rest-requires t c =
    let h = letrec_rest c.requires.at c.requires.kind_is c.push-outer.ensures in
    (omega (arith, c.decreases, h.lower), record { ready = h.ready; known = c.infer.ensures.known })

pub infer_letrec-returns : goal.infer_letrec-returns
infer_letrec-returns t c =
    record {
      is = letrec_is c.requires.at _ _ c.type_record-f.ensures refl c.requires.kind_is c.push-outer.ensures
          c.push-inner.ensures c.infer.ensures.is c.in_ok-body.was c.infer-rest.ensures.is
          c.letrec_of.ensures;
      known = c.infer-rest.ensures.known;
    }

pub infer_post-infer-j-requires : goal.infer_post-infer-j-requires
infer_post-infer-j-requires t c =
    let h = post_child c.requires.at c.requires.kind_is in
    (omega (arith, c.decreases, h.lower), record { ready = h.ready; known = c.requires.at.known })

pub infer_post-posted-requires : goal.infer_post-posted-requires
infer_post-posted-requires t c = post_guard_byte c.requires.at c.requires.kind_is c.guard-g.ensures

pub infer_post-returns : goal.infer_post-returns
infer_post-returns t c =
    record {
      is = post_is c.requires.at _ c.requires.kind_is c.guard-g.ensures c.infer-j.ensures.is c.posted.ensures;
      known = c.infer-j.ensures.known;
    }

pub infer_sign-infer-j-requires : goal.infer_sign-infer-j-requires
infer_sign-infer-j-requires t c =
    let h = sign_child c.requires.at c.requires.kind_is in
    (omega (arith, c.decreases, h.lower), record { ready = h.ready; known = c.requires.at.known })

pub infer_sign-returns : goal.infer_sign-returns
infer_sign-returns t c =
    record {
      is = sign_is c.requires.at _ c.requires.kind_is c.authority-authorised.ensures c.infer-j.ensures.is
          c.signed.ensures;
      known = c.infer-j.ensures.known;
    }

pub infer_test-infer-requires : goal.infer_test-infer-requires
infer_test-infer-requires t c =
    let h = test_first c.requires.at c.requires.kind_is in
    (omega (arith, c.decreases, h.lower), record { ready = h.ready; known = c.requires.at.known })

pub infer_test-returns-in_err-first : goal.infer_test-returns-in_err-first
infer_test-returns-in_err-first t c =
    record {
      is = test_stops c.requires.at _ c.requires.kind_is c.infer.ensures.is
          c.in_err-first.was (search rules);
      known = c.infer.ensures.known;
    }

pub infer_test-infer-second-requires : goal.infer_test-infer-second-requires
infer_test-infer-second-requires t c =
    let h = test_second c.requires.at c.requires.kind_is in
    (omega (arith, c.decreases, h.lower), record { ready = h.ready; known = c.infer.ensures.known })

pub infer_test-tested-requires : goal.infer_test-tested-requires
infer_test-tested-requires t c =
    record {
      judging = record { sheet = c.requires.at.ready.sheet; known = c.infer-second.ensures.known };
      privilege = test_privilege c.requires.at c.requires.kind_is;
    }

pub infer_test-returns : goal.infer_test-returns
infer_test-returns t c =
    record {
      is = test_is c.requires.at _ c.requires.kind_is c.infer.ensures.is c.in_ok-first.was c.infer-second.ensures.is
          c.tested.ensures.is;
      known = c.tested.ensures.known;
    }
