-- The worked coroutine has one end, and its ret stands right behind it. The other functions of the module begin none.
use Rattle.std.proofs.Common.{◌≡◌, ◌∙◌, ◌⊎◌, inl, inr, ℕ, zero, suc, ◌+◌, Bool, true, false, List, [], ◌∷◌, None, Option, Some, ap, arith, if◌then◌else◌, length, map, refl, subst, sym, ◌||◌, ◌==◌}
use Rattle.std.specs.Prelude.{nat_lt, slice_get, unwrap_or}
use Rattle.pass_elide_apart.specs.Rets.{EndsBeforeRets, HasOneEnd}
use Rattle.pass_elide_edges.proofs.pass_elide_proof.GoesOn.{instr_there}
use Rattle.pass_elide_edges.specs.pass_elide_proof.Elision.{function_in}
use Rattle.pass_elide_edges.specs.pass_elide_proof.Places.{instrs_in}
use Rattle.pass_elide_edges.specs.pass_elide_proof.Worked.{a_coroutine, the_elision}
use Rattle.pass_elide_edges.proofs.pass_elide_proof.pass_proofs.ir_laws.facts.Truth.{equal_numbers}
use Rattle.pass_elide_edges.proofs.pass_elide_proof.pass_proofs.rule_laws.frames.crossing.Paths.{point_there}
use Rattle.pass_elide_edges.specs.pass_elide_proof.pass_proofs.flow_solver.Paths.{IsListed}
use Rattle.pass_elide_edges.specs.pass_elide_proof.pass_proofs.ir_model.declared.instr.Instr.{Instr}
use Rattle.pass_elide_edges.specs.pass_elide_proof.pass_proofs.ir_model.declared.instr.Terminator.{Terminator}
use Rattle.pass_elide_edges.specs.pass_elide_proof.pass_proofs.ir_model.declared.module.Block.{Block}
use Rattle.pass_elide_edges.specs.pass_elide_proof.pass_proofs.ir_model.declared.module.Function.{Function}
use Rattle.pass_elide_edges.specs.pass_elide_proof.pass_proofs.ir_model.declared.operand.Arg.{Arg}
use Rattle.pass_elide_edges.specs.pass_elide_proof.pass_proofs.ir_model.declared.operand.Intrinsic.{Intrinsic}
use Rattle.pass_elide_edges.specs.pass_elide_proof.pass_proofs.ir_paths.Paths.{IsPath, entry_point, has_point, nexts, nexts_in, same_point, targets}
use Rattle.pass_elide_edges.specs.pass_elide_proof.pass_proofs.ir_paths.Windows.{is_call_of, points_where}
use Rattle.pass_elide_edges.specs.pass_elide_proof.pass_proofs.ir_paths.declared.point.Point.{Point}
use Rattle.pass_elide_edges.specs.pass_elide_proof.pass_proofs.pass_kept_proof.SuspendRules.{IsCallAt}
use Rattle.pass_elide_edges.specs.pass_elide_proof.pass_proofs.rule_windows.Points.{begins, ends}
use Rattle.pass_elide_edges.specs.pass_elide_proof.pass_proofs.rule_windows.Sets.{RunsOut}
use Rattle.pass_elide_edges.specs.pass_elide_proof.pass_proofs.run_step.Step.{AtInstr, AtTerm, fetch, fetch_in, fetch_or}
use Rattle.pass_elide_edges.proofs.pass_elide_proof.pass_proofs.pass_kept_proof.Same.{same_point_same}

-- ---- calls of an intrinsic that stands once

-- the places of coro.end, of coro.suspend, and of the ret
abbrev end_place : Point
end_place = record { block = 10; at = 0 }

abbrev suspend_place : Point
suspend_place = record { block = 6; at = 7 }

abbrev ret_place : Point
ret_place = record { block = 10; at = 1 }

only : (p q : Point) → IsListed p (q ∷ []) → p ≡ q
only p q (inl e) = e
only p q (inr l) = absurd l

called_there : (i : Intrinsic) (f : Function) (p : Point) → IsCallAt i f p
    → IsListed (record { block = p.block; at = p.at }) (points_where (is_call_of i) f)
called_there i f p c = by (slice_get f.blocks p.block) refl c.stands
  where
    by : (o : Option Block) → slice_get f.blocks p.block ≡ o → fetch_in o p.at ≡ AtInstr c.instr
        → IsListed (record { block = p.block; at = p.at }) (points_where (is_call_of i) f)
    by None is h = absurd (cc)
    by (Some b) is h =
        point_there (is_call_of i) f p.block b p.at c.instr is
        (ap (λ (o : Option Block). slice_get (instrs_in o) p.at) (sym is) ∙ instr_there f p.block p.at c.instr c.stands)
        c.is

the_end : (p : Point) → IsCallAt Intrinsic.CoroEnd a_coroutine p → p ≡ end_place
the_end p c = only p end_place (called_there Intrinsic.CoroEnd a_coroutine p c)

the_suspend : (p : Point) → IsCallAt Intrinsic.CoroSuspend a_coroutine p → p ≡ suspend_place
the_suspend p c = only p suspend_place (called_there Intrinsic.CoroSuspend a_coroutine p c)

pub worked_end : HasOneEnd a_coroutine
worked_end p q first second = the_end p first ∙ sym (the_end q second)

-- ---- the way to the suspend

to_suspend : RunsOut a_coroutine suspend_place
to_suspend = record {
  start = record { block = 4; at = 0 };
  is_start = refl;
  path = record {
    between =
        record { block = 4; at = 1 } ∷ record { block = 5; at = 0 } ∷ record { block = 6; at = 0 }
        ∷ record { block = 6; at = 1 } ∷ record { block = 6; at = 2 } ∷ record { block = 6; at = 3 }
        ∷ record { block = 6; at = 4 } ∷ record { block = 6; at = 5 } ∷ record { block = 6; at = 6 } ∷ [];
    is_path = (
      refl,
      refl,
      (
        refl,
        refl,
        (
          refl,
          refl,
          (
            refl,
            refl,
            (
              refl,
              refl,
              (
                refl,
                refl,
                (
                  refl,
                  refl,
                  (
                    refl,
                    refl,
                    (refl, refl, refl),
                  ),
                ),
              ),
            ),
          ),
        ),
      ),
    );
  };
}

-- ---- no way to the ret

none_at : (f : Function) (ls : List ℕ) (q : Point) → has_point (map (entry_point f) ls) q ≡ true → q.at ≡ 0
none_at f [] q h = absurd (cc)
none_at f (l ∷ ls) q h = by (same_point q (entry_point f l)) refl h (λ k. none_at f ls q k)
  where
    by : (b : Bool) → same_point q (entry_point f l) ≡ b → (b || has_point (map (entry_point f) ls) q) ≡ true
        → (has_point (map (entry_point f) ls) q ≡ true → q.at ≡ 0) → q.at ≡ 0
    by true e h rest = ap (λ (p : Point). p.at) (same_point_same q (entry_point f l) e)
    by false e h rest = rest h

-- an edge leads to a block, or to the next place
next_or : (f : Function) (p q : Point) → has_point (nexts f p) q ≡ true
    → (q.at ≡ 0) ⊎ (q ≡ record { block = p.block; at = p.at + 1 })
next_or f p q h = on (slice_get f.blocks p.block) h
  where
    one : (x : Point) → has_point (x ∷ []) q ≡ true → q ≡ x
    one x h = by (same_point q x) refl h
      where
        by : (b : Bool) → same_point q x ≡ b → (b || false) ≡ true → q ≡ x
        by true e h = same_point_same q x e
        by false e h = absurd (cc)

    on : (o : Option Block) → has_point (nexts_in f p o) q ≡ true
        → (q.at ≡ 0) ⊎ (q ≡ record { block = p.block; at = p.at + 1 })
    on None h = absurd (cc)
    on (Some b) h = by (nat_lt p.at (length b.instrs)) (p.at == length b.instrs) h
      where
        by : (low last : Bool) → has_point (if low then record { block = p.block; at = p.at + 1 } ∷ []
            else if last then map (entry_point f) (targets b.term) else []) q ≡ true
            → (q.at ≡ 0) ⊎ (q ≡ record { block = p.block; at = p.at + 1 })
        by true last h = inr (one (record { block = p.block; at = p.at + 1 }) h)
        by false true h = inl (none_at f (targets b.term) q h)
        by false false h = absurd (cc)

back : (p : Point) → has_point (nexts a_coroutine p) ret_place ≡ true → p ≡ end_place
back p h = by (next_or a_coroutine p ret_place h)
  where
    by : (ret_place.at ≡ 0) ⊎ (ret_place ≡ record { block = p.block; at = p.at + 1 }) → p ≡ end_place
    by (inl e) = absurd (omega (arith, e))
    by (inr e) =
        let block : p.block ≡ 10 = ap (λ (q : Point). q.block) (sym e) in
        let next : ret_place.at ≡ p.at + 1 = ap (λ (q : Point). q.at) e in
        let first : p.at ≡ 0 = omega (arith, next) in
        λ j. record { block = block j; at = first j }

never : (p : Point) (between : List Point) → (p ≡ end_place → ⊥)
    → IsPath a_coroutine (ends a_coroutine) p between ret_place → ⊥
never p [] other path = other (back p path)
never p (v ∷ between) other path =
    never v between (λ is.
    let not_end : has_point (ends a_coroutine) end_place ≡ false =
    ap (has_point (ends a_coroutine)) (sym is) ∙ path.1 in absurd (cc)) path.2

never_returns : RunsOut a_coroutine ret_place → ⊥
never_returns r =
    never r.start r.path.between (λ is.
    let begin : has_point (begins a_coroutine) end_place ≡ true =
    ap (has_point (begins a_coroutine)) (sym is) ∙ r.is_start in absurd (cc)) r.path.is_path

-- ---- the ret

term_of : (b : Block) (n : ℕ) (t : Terminator) → fetch_in (Some b) n ≡ AtTerm t
    → (b.term ≡ t) × (n ≡ length b.instrs)
term_of b n t h = by (slice_get b.instrs n) (n == length b.instrs) refl h
  where
    by : (o : Option Instr) (last : Bool) → (n == length b.instrs) ≡ last → fetch_or o last b.term ≡ AtTerm t
        → (b.term ≡ t) × (n ≡ length b.instrs)
    by (Some i) last e h = absurd (cc)
    by None true e h = (same_term h, equal_numbers n (length b.instrs) e)
      where
        same_term : AtTerm b.term ≡ AtTerm t → b.term ≡ t
        same_term h = cc
    by None false e h = absurd (cc)

abbrev is_ret : Terminator → Bool
is_ret (Terminator.Ret value) = true
is_ret _ = false

other_term : (b : Block) (n : ℕ) (value : Option Arg) → fetch_in (Some b) n ≡ AtTerm (Terminator.Ret value)
    → is_ret b.term ≡ false → ⊥
other_term b n value h none =
    let is : is_ret b.term ≡ true = ap is_ret (term_of b n (Terminator.Ret value) h).0 in absurd (cc)

abbrev block_at : ℕ → Block
block_at k =
    unwrap_or (slice_get a_coroutine.blocks k)
    (record { label = 0; phis = []; instrs = []; term = Terminator.Unreachable })

the_ret : (block n : ℕ) (value : Option Arg) → fetch a_coroutine block n ≡ AtTerm (Terminator.Ret value)
    → (block ≡ 10) × (n ≡ 1)
the_ret zero n value h = absurd (other_term (block_at 0) n value h refl)
the_ret (suc zero) n value h = absurd (other_term (block_at 1) n value h refl)
the_ret (suc (suc zero)) n value h = absurd (other_term (block_at 2) n value h refl)
the_ret (suc (suc (suc zero))) n value h = absurd (other_term (block_at 3) n value h refl)
the_ret (suc (suc (suc (suc zero)))) n value h = absurd (other_term (block_at 4) n value h refl)
the_ret (suc (suc (suc (suc (suc zero))))) n value h = absurd (other_term (block_at 5) n value h refl)
the_ret (suc (suc (suc (suc (suc (suc zero)))))) n value h = absurd (other_term (block_at 6) n value h refl)
the_ret (suc (suc (suc (suc (suc (suc (suc zero))))))) n value h = absurd (other_term (block_at 7) n value h refl)
the_ret (suc (suc (suc (suc (suc (suc (suc (suc zero)))))))) n value h = absurd (other_term (block_at 8) n value h refl)
the_ret (suc (suc (suc (suc (suc (suc (suc (suc (suc zero))))))))) n value h = absurd (other_term (block_at 9) n value h refl)
the_ret (suc (suc (suc (suc (suc (suc (suc (suc (suc (suc zero)))))))))) n value h = (refl, (term_of (block_at 10) n (Terminator.Ret value) h).1)
the_ret (suc (suc (suc (suc (suc (suc (suc (suc (suc (suc (suc block))))))))))) n value h = absurd (cc)

worked_rets : EndsBeforeRets a_coroutine
worked_rets = record {
  suspends = λ p reached c. subst (RunsOut a_coroutine) (sym (the_suspend p c)) to_suspend;
  returns = λ p value is runs.
      let there = the_ret p.block p.at value is in
      never_returns (subst (RunsOut a_coroutine) (λ j. record { block = there.0 j; at = there.1 j }) runs);
}

-- ---- functions that begin nothing

plain_rets : (f : Function) → points_where (is_call_of Intrinsic.CoroSuspend) f ≡ [] → begins f ≡ []
    → EndsBeforeRets f
plain_rets f none first = record {
  suspends = λ p reached c.
      absurd (subst (IsListed (record { block = p.block; at = p.at })) none
      (called_there Intrinsic.CoroSuspend f p c));
  returns = λ p value is runs. no_start runs.start (ap (λ (ps : List Point). has_point ps runs.start) (sym first)
      ∙ runs.is_start);
}
  where
    no_start : (start : Point) → has_point [] start ≡ true → ⊥
    no_start start h = absurd (cc)

pub worked_module_rets : (func : ℕ) → EndsBeforeRets (function_in the_elision func)
worked_module_rets zero = worked_rets
worked_module_rets (suc zero) = plain_rets (function_in the_elision 1) refl refl
worked_module_rets (suc (suc func)) = plain_rets (function_in the_elision (suc (suc func))) refl refl
