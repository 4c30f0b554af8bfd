-- The worked module keeps what is asked of its ends. Its paths are searched.
use Rattle.std.proofs.Common.{◌≡◌, ◌⊎◌, inl, inr, ◌∙◌, ℕ, zero, suc, Bool, true, false, List, [], ◌∷◌, refl, sym, ap, subst, ◌==◌, ◌&&◌, ◌||◌}
use Rattle.std.specs.List.{list_all}
use Rattle.std.specs.Prelude.{not}
use Rattle.elide_sites.specs.Destroyed.{FreesWhenDestroyed, IsOn, Start, Step, has_at, is_free, passes, starts}
use Rattle.elide_sites.specs.declared.destroyed.Way.{Way}
use Rattle.elide_sites.specs.elide_shape.Edges.{edges_of}
use Rattle.elide_sites.specs.elide_shape.declared.edges.Edge.{Edge}
use Rattle.pass_elide_lacks.proofs.EndPaths.{suspend_out}
use Rattle.pass_elide_lacks.specs.Ends.{EndsBeforeRets, HasOneEnd, KeepsEndings}
use Rattle.pass_elide_meaning.proofs.pass_elide_edges.pass_elide_proof.CallersWorked.{worked_save}
use Rattle.pass_elide_meaning.proofs.pass_elide_edges.pass_elide_proof.Facts.{not_both, some_none}
use Rattle.pass_elide_meaning.proofs.pass_elide_edges.pass_elide_proof.PlacingChecked.{or_other, unset}
use Rattle.pass_elide_meaning.proofs.pass_elide_edges.pass_elide_proof.PlacingWorked.{shape_none}
use Rattle.pass_elide_meaning.proofs.pass_elide_edges.pass_elide_proof.ReleasedWorked.{worked_frees}
use Rattle.pass_elide_meaning.proofs.pass_elide_edges.pass_elide_proof.pass_proofs.ir_laws.facts.Truth.{and_first, and_second}
use Rattle.pass_elide_meaning.proofs.pass_elide_edges.pass_elide_proof.pass_proofs.ir_paths.Search.{either, led_to-complete, same_point-same}
use Rattle.pass_elide_meaning.specs.pass_elide_edges.pass_elide_proof.Elision.{Shape, function_in}
use Rattle.pass_elide_meaning.specs.pass_elide_edges.pass_elide_proof.Placing.{HasShape}
use Rattle.pass_elide_meaning.specs.pass_elide_edges.pass_elide_proof.Releasing.{FreesAtOnce}
use Rattle.pass_elide_meaning.specs.pass_elide_edges.pass_elide_proof.Worked.{a_caller, a_coroutine, the_elision}
use Rattle.pass_elide_meaning.specs.pass_elide_edges.pass_elide_proof.pass_proofs.flow_points.Reached.{IsReached}
use Rattle.pass_elide_meaning.specs.pass_elide_edges.pass_elide_proof.pass_proofs.flow_solver.Paths.{IsListed}
use Rattle.pass_elide_meaning.specs.pass_elide_edges.pass_elide_proof.pass_proofs.ir_model.Names.{no_function}
use Rattle.pass_elide_meaning.specs.pass_elide_edges.pass_elide_proof.pass_proofs.ir_model.declared.instr.Terminator.{Terminator}
use Rattle.pass_elide_meaning.specs.pass_elide_edges.pass_elide_proof.pass_proofs.ir_model.declared.operand.Intrinsic.{Intrinsic}
use Rattle.pass_elide_meaning.specs.pass_elide_edges.pass_elide_proof.pass_proofs.ir_paths.Paths.{Leads, has_point, led_to, same_point}
use Rattle.pass_elide_meaning.specs.pass_elide_edges.pass_elide_proof.pass_proofs.ir_paths.Windows.{is_call_of, points_where}
use Rattle.pass_elide_meaning.specs.pass_elide_edges.pass_elide_proof.pass_proofs.ir_paths.declared.point.Point.{Point}
use Rattle.pass_elide_meaning.specs.pass_elide_edges.pass_elide_proof.pass_proofs.pass_kept_proof.SuspendRules.{IsCallAt}
use Rattle.pass_elide_meaning.specs.pass_elide_edges.pass_elide_proof.pass_proofs.rule_windows.Points.{begins, ends, entry}
use Rattle.pass_elide_meaning.specs.pass_elide_edges.pass_elide_proof.pass_proofs.rule_windows.Sets.{IsAfterEnd, IsWithoutBegin, RunsOut}
use Rattle.pass_elide_meaning.specs.pass_elide_edges.pass_elide_proof.pass_proofs.run_step.Step.{AtTerm, Fetched, fetch}
use Rattle.run_slots.proofs.run_hooks.pass_renewed_proof.Left.{call_listed}

-- ---- lists

never : false ≡ true → ⊥
never h = cc

listed_points : (test : Point → Bool) (ps : List Point) (p : Point) → list_all test ps ≡ true
    → has_point ps p ≡ true → test p ≡ true
listed_points test [] p all among = absurd (cc)
listed_points test (q ∷ ps) p all among =
    by (listed_points test ps p (and_second (test q) (list_all test ps) all))
    (either (same_point p q) (has_point ps p) among)
  where
    by : (has_point ps p ≡ true → test p ≡ true) → (same_point p q ≡ true) ⊎ (has_point ps p ≡ true) → test p ≡ true
    by rest (inl same) = ap test (same_point-same p q same) ∙ and_first (test q) (list_all test ps) all
    by rest (inr more) = rest more

one_of : (x p : Point) → has_point (x ∷ []) p ≡ true → p ≡ x
one_of x p among = by (either (same_point p x) false among)
  where
    by : (same_point p x ≡ true) ⊎ (false ≡ true) → p ≡ x
    by (inl same) = same_point-same p x same
    by (inr none) = absurd (never none)

listed_all : {A : Type 0} (test : A → Bool) (xs : List A) (x : A) → list_all test xs ≡ true → IsListed x xs
    → test x ≡ true
listed_all test [] x all listed = absurd listed
listed_all test (y ∷ xs) x all (inl same) = ap test same ∙ and_first (test y) (list_all test xs) all
listed_all test (y ∷ xs) x all (inr more) = listed_all test xs x (and_second (test y) (list_all test xs) all) more

-- ---- the end

abbrev at_point : ℕ → ℕ → Point
at_point block at = record { block = block; at = at }

one_coroutine : HasOneEnd a_coroutine
one_coroutine p q c d =
    let first = one_of (at_point 10 0) p (call_listed a_coroutine Intrinsic.CoroEnd p c) in
    let second = one_of (at_point 10 0) q (call_listed a_coroutine Intrinsic.CoroEnd q d) in
    first ∙ sym second

one : (func : ℕ) → HasOneEnd (function_in the_elision func)
one zero = one_coroutine
one (suc zero) = λ p q c d. absurd (never (call_listed a_caller Intrinsic.CoroEnd p c))
one (suc (suc n)) = λ p q c d. absurd (never (call_listed no_function Intrinsic.CoroEnd p c))

-- ---- paths from begin, and from the entry

abbrev is_ret : Fetched → Bool
is_ret (AtTerm (Terminator.Ret value)) = true
is_ret _ = false

abbrev no_ret_at : Point → Bool
no_ret_at p = not (is_ret (fetch a_coroutine p.block p.at))

abbrev suspends : List Point
suspends = points_where (is_call_of Intrinsic.CoroSuspend) a_coroutine

abbrev no_suspend_at : Point → Bool
no_suspend_at p = not (has_point suspends p)

out_calm : (p : Point) → RunsOut a_coroutine p → no_ret_at p ≡ true
out_calm p out =
    listed_points no_ret_at (led_to a_coroutine (ends a_coroutine) (at_point 4 0)) p refl
    (led_to-complete a_coroutine (ends a_coroutine) (at_point 4 0) p
    (subst (λ (z : Point). Leads a_coroutine (ends a_coroutine) z p) (one_of (at_point 4 0) out.start out.is_start)
    out.path))

early_calm : (p : Point) → IsWithoutBegin a_coroutine p → no_suspend_at p ≡ true
early_calm p without = by without.path
  where
    by : (p ≡ entry) ⊎ IsReached a_coroutine (entry ∷ []) (begins a_coroutine) p → no_suspend_at p ≡ true
    by (inl is) = ap no_suspend_at is
    by (inr r) =
        listed_points no_suspend_at (led_to a_coroutine (begins a_coroutine) entry) p refl
        (led_to-complete a_coroutine (begins a_coroutine) entry p
        (subst (λ (z : Point). Leads a_coroutine (begins a_coroutine) z p) (one_of entry r.start r.is_start) r.path))

after_calm : (p : Point) → IsAfterEnd a_coroutine p → no_suspend_at p ≡ true
after_calm p past =
    listed_points no_suspend_at (led_to a_coroutine [] (at_point 10 0)) p refl
    (led_to-complete a_coroutine [] (at_point 10 0) p
    (subst (λ (z : Point). Leads a_coroutine [] z p) (one_of (at_point 10 0) past.start past.is_start) past.path))

no_suspend : (p : Point) → IsCallAt Intrinsic.CoroSuspend a_coroutine p → no_suspend_at p ≡ true → ⊥
no_suspend p c calm =
    not_both (has_point suspends p) (call_listed a_coroutine Intrinsic.CoroSuspend p c)
    (unset (has_point suspends p) calm)

returns : (func : ℕ) → EndsBeforeRets (function_in the_elision func)
returns zero = record {
  suspends = λ p reached c.
      suspend_out a_coroutine p reached c (λ without. no_suspend p c (early_calm p without))
      (λ past. no_suspend p c (after_calm p past));
  returns = λ p value there out.
      not_both (is_ret (fetch a_coroutine p.block p.at)) (ap is_ret there)
      (unset (is_ret (fetch a_coroutine p.block p.at)) (out_calm p out));
}
returns (suc zero) = record {
  suspends = λ p reached c. absurd (never (call_listed a_caller Intrinsic.CoroSuspend p c));
  returns = λ p value there out. never out.is_start;
}
returns (suc (suc n)) = record {
  suspends = λ p reached c. absurd (never (call_listed no_function Intrinsic.CoroSuspend p c));
  returns = λ p value there out. never out.is_start;
}

-- ---- ways from edges of a suspend

both_true : (a b : Bool) → a ≡ true → b ≡ true → not (a && b) ≡ false
both_true a b first second j = not (first j && second j)

module _ (way : Way) (test : ℕ → Bool) where
  abbrev edge_ok : Edge → Bool
  edge_ok x = not (test x.from && passes way a_coroutine x) || test x.to

  on_way : list_all test (starts way (edges_of a_coroutine)) ≡ true
      → list_all edge_ok (edges_of a_coroutine) ≡ true → (b : ℕ) → IsOn way a_coroutine b → test b ≡ true
  on_way first each _ (Start b listed) = listed_all test (starts way (edges_of a_coroutine)) b first listed
  on_way first each _ (Step x led listed pass) =
      or_other (not (test x.from && passes way a_coroutine x)) (test x.to)
      (listed_all edge_ok (edges_of a_coroutine) x each listed)
      (both_true (test x.from) (passes way a_coroutine x) (on_way first each x.from led) pass)

-- no block on a way without a destroy edge frees
abbrev is_calm : ℕ → Bool
is_calm b = not (has_at is_free a_coroutine b) && not (b == 8)

calm : (b : ℕ) → IsOn Way.Calm a_coroutine b → is_calm b ≡ true
unfolding edges_of
calm b led = on_way Way.Calm is_calm refl refl b led

-- from the destroy edge the block that frees is come to, and left behind it
abbrev is_unfreed : ℕ → Bool
is_unfreed b = (b == 8) || (b == 9)

unfreed : (b : ℕ) → IsOn Way.Unfreed a_coroutine b → is_unfreed b ≡ true
unfolding edges_of
unfreed b led = on_way Way.Unfreed is_unfreed refl refl b led

freed_coroutine : FreesWhenDestroyed a_coroutine
freed_coroutine = record {
  calm = λ b led.
      unset (has_at is_free a_coroutine b)
      (and_first (not (has_at is_free a_coroutine b)) (not (b == 8)) (calm b led));
  freed = λ led. never (unfreed 10 led);
  still = worked_save.still;
}

-- ---- the module

no_shape_there : (n : ℕ) → HasShape the_elision (suc n) → ⊥
no_shape_there n k =
    some_none ((the_elision.shape (suc n)).waits k.asks.allocates) k.asks.asks k.asks.waits
    (ap (λ (x : Shape). x.waits k.asks.allocates) (shape_none n))

at_once : (func : ℕ) → HasShape the_elision func → FreesAtOnce (function_in the_elision func) (the_elision.shape func)
at_once zero k = worked_frees
at_once (suc n) k = absurd (no_shape_there n k)

freed : (func : ℕ) → HasShape the_elision func → FreesWhenDestroyed (function_in the_elision func)
freed zero k = freed_coroutine
freed (suc n) k = absurd (no_shape_there n k)

pub worked_endings : KeepsEndings the_elision
worked_endings = record { one = one; returns = returns; at_once = at_once; freed = freed }
