-- From the switch of a suspend no path leads back to it without its save (rules K2, K3, K5 and K6).
use Rattle.std.proofs.Common.{◌≡◌, ◌⊎◌, inl, inr, ℕ, ◌+◌, Bool, true, false, List, [], ◌∷◌, length, Some}
use Rattle.std.proofs.Common.{refl, sym, ap, ◌∙◌, subst, arith, if◌then◌else◌}
use Rattle.std.specs.Prelude.{slice_get, map, ◌==◌, ◌&&◌, ◌||◌, negsuc, pos}
use Rattle.pass_early_proof.proofs.rule_laws.flow_points.Neighbours.{IsBranch, IsInner, edge-cases}
use Rattle.pass_early_proof.specs.flow_solver.Paths.{IsListed}
use Rattle.pass_early_proof.proofs.frame_slots.Points.{where_complete}
use Rattle.pass_early_proof.proofs.ir_laws.facts.Truth.{and_first, and_second, equal_numbers, itself}
use Rattle.ir_model.specs.declared.instr.Case.{Case}
use Rattle.ir_model.specs.declared.instr.Instr.{Instr}
use Rattle.ir_model.specs.declared.instr.Terminator.{Terminator}
use Rattle.ir_model.specs.declared.module.Block.{Block}
use Rattle.ir_model.specs.declared.module.Function.{Function}
use Rattle.ir_model.specs.declared.module.Module.{Module}
use Rattle.ir_model.specs.declared.operand.Arg.{Arg}
use Rattle.ir_model.specs.declared.operand.Callee.{Callee}
use Rattle.ir_model.specs.declared.operand.Intrinsic.{Intrinsic}
use Rattle.ir_model.specs.declared.operand.Operand.{Operand}
use Rattle.pass_early_proof.proofs.ir_paths.Search.{same_point-same}
use Rattle.pass_early_proof.specs.ir_paths.Paths.{IsPath, Leads, entry_point, has_point, nexts, same_point, targets}
use Rattle.pass_early_proof.specs.ir_paths.Windows.{destroy_label, is_call_of, is_number, label_at, label_in, label_of_term}
use Rattle.pass_early_proof.specs.ir_paths.Windows.{resume_label, suspend_of}
use Rattle.pass_early_proof.specs.ir_paths.declared.point.Point.{Point}
use Rattle.pass_kept_proof.proofs.Rules.{suspend_is_suspend}
use Rattle.pass_kept_proof.specs.SuspendRules.{IsCallAt}
use Rattle.pass_edges_proof.proofs.kept.sources.Closed.{not_behind_end, suspend_ends}
use Rattle.pass_edges_proof.proofs.kept.sources.SaveTokens.{entered_by}
use Rattle.pass_edges_proof.proofs.kept.sources.Stops.{both_cases, has_switch, is_end}
use Rattle.pass_edges_proof.proofs.kept.sources.Windows.{none_avoided, not_wrong}
use Rattle.pass_early_proof.proofs.rule_laws.rules.sources.Places.{IsEnd, instr_there, term_there}
use Rattle.pass_early_proof.specs.rule_laws.rules.function_rules.Kept.{KeepsFunctionRules}
use Rattle.pass_early_proof.specs.rule_laws.rules.path_rules.Paths.{KeepsPaths}
use Rattle.pass_early_proof.specs.rule_laws.rules.path_rules.Shape.{KeepsShape}
use Rattle.pass_early_proof.specs.rule_shape.Switches.{are_both}
use Rattle.pass_early_proof.specs.rule_windows.Windows.{Back, own_edges}
use Rattle.pass_early_proof.specs.run_step.Step.{AtInstr, AtTerm, fetch}

-- ---- the labels of a switch with the cases 0 and 1

other_number : (n j : ℕ) (o : Operand) → is_number n o ≡ true → is_number j o ≡ (j == n)
other_number n j (Operand.Number (pos k)) e = ap (λ (x : ℕ). j == x) (sym (equal_numbers n k e))
other_number n j (Operand.Number (negsuc k)) e = absurd (cc)
other_number n j (Operand.Local k) e = absurd (cc)
other_number n j (Operand.Global k) e = absurd (cc)
other_number n j Operand.True e = absurd (cc)
other_number n j Operand.False e = absurd (cc)
other_number n j Operand.Null e = absurd (cc)
other_number n j Operand.None e = absurd (cc)
other_number n j Operand.Poison e = absurd (cc)

-- the label of the first case with a number, and of the second
first_case : (n default : ℕ) (a b : Case) → is_number n a.arg.value ≡ true → label_in n (a ∷ b ∷ []) default ≡ a.target
first_case n default a b e = ap (λ (t : Bool). if t then a.target else label_in n (b ∷ []) default) e

second_case : (n default : ℕ) (a b : Case) → is_number n a.arg.value ≡ false → is_number n b.arg.value ≡ true
    → label_in n (a ∷ b ∷ []) default ≡ b.target
second_case n default a b d e =
    ap (λ (t : Bool). if t then a.target else label_in n (b ∷ []) default) d
    ∙ ap (λ (t : Bool). if t then b.target else default) e

two_labels : (cases : List Case) (default label : ℕ) → are_both cases ≡ true
    → IsListed label (map (λ k. k.target) cases)
    → (label ≡ label_in 0 cases default) ⊎ (label ≡ label_in 1 cases default)
two_labels [] default label e h = absurd h
two_labels (a ∷ []) default label e h = absurd (cc)
two_labels (a ∷ b ∷ c ∷ rest) default label e h = absurd (cc)
two_labels (a ∷ b ∷ []) default label e h = on (is_number 0 a.arg.value && is_number 1 b.arg.value) refl e h
  where
    in_order : is_number 0 a.arg.value ≡ true → is_number 1 b.arg.value ≡ true
        → IsListed label (a.target ∷ b.target ∷ [])
        → (label ≡ label_in 0 (a ∷ b ∷ []) default) ⊎ (label ≡ label_in 1 (a ∷ b ∷ []) default)
    in_order x y (inl d) = inl (d ∙ sym (first_case 0 default a b x))
    in_order x y (inr (inl d)) = inr (d ∙ sym (second_case 1 default a b (other_number 0 1 a.arg.value x) y))
    in_order x y (inr (inr d)) = absurd d

    turned : is_number 1 a.arg.value ≡ true → is_number 0 b.arg.value ≡ true
        → IsListed label (a.target ∷ b.target ∷ [])
        → (label ≡ label_in 0 (a ∷ b ∷ []) default) ⊎ (label ≡ label_in 1 (a ∷ b ∷ []) default)
    turned x y (inl d) = inr (d ∙ sym (first_case 1 default a b x))
    turned x y (inr (inl d)) = inl (d ∙ sym (second_case 0 default a b (other_number 1 0 a.arg.value x) y))
    turned x y (inr (inr d)) = absurd d

    on : (t : Bool) → (is_number 0 a.arg.value && is_number 1 b.arg.value) ≡ t
        → (t || (is_number 1 a.arg.value && is_number 0 b.arg.value)) ≡ true → IsListed label (a.target ∷ b.target ∷ [])
        → (label ≡ label_in 0 (a ∷ b ∷ []) default) ⊎ (label ≡ label_in 1 (a ∷ b ∷ []) default)
    on true et d l = in_order (and_first (is_number 0 a.arg.value) (is_number 1 b.arg.value) et)
        (and_second (is_number 0 a.arg.value) (is_number 1 b.arg.value) et) l
    on false et d l = turned (and_first (is_number 1 a.arg.value) (is_number 0 b.arg.value) d)
        (and_second (is_number 1 a.arg.value) (is_number 0 b.arg.value) d) l

-- ---- paths

neither : (a b : Bool) → a ≡ false → b ≡ false → (a || b) ≡ false
neither true b e d = absurd (cc)
neither false b e d = d

first_false : (a b : Bool) → (a || b) ≡ false → a ≡ false
first_false true b e = absurd (cc)
first_false false b e = refl

-- a path to a point leads there without it between
until : (f : Function) (k s p : Point) (between : List Point) → IsPath f (k ∷ []) p between s → Leads f (k ∷ s ∷ []) p s
until f k s p [] h = record { between = []; is_path = h }
until f k s p (v ∷ between) h = on (same_point v s) refl (until f k s v between h.2)
  where
    on : (b : Bool) → same_point v s ≡ b → Leads f (k ∷ s ∷ []) v s → Leads f (k ∷ s ∷ []) p s
    on true e l = record {
      between = [];
      is_path = subst (λ (z : Point). has_point (nexts f p) z ≡ true) (same_point-same v s e) h.0;
    }
    on false e l =
        let o : has_point (k ∷ s ∷ []) v ≡ false =
        neither (same_point v k) (has_point (s ∷ []) v) (first_false (same_point v k) false h.1)
        (neither (same_point v s) false e refl) in
        record { between = v ∷ l.between; is_path = (h.0, o, l.is_path) }

suspend_no_end : (i : Instr) → is_call_of Intrinsic.CoroSuspend i ≡ true → is_call_of Intrinsic.CoroEnd i ≡ true → ⊥
suspend_no_end (Instr.Call r must_tail ty (Callee.Intrinsic Intrinsic.CoroSuspend) args) e h = absurd (cc)
suspend_no_end _ e h = absurd (cc)

-- the point is the suspend, or a path without the save leads from it there
abbrev ComesBy : Function → Point → Point → Point → Type 0
ComesBy f k s r = (r ≡ s) ⊎ ((has_point (k ∷ []) r ≡ false) × Leads f (k ∷ []) r s)

module _ (k : ℕ) (m : Module) (f : Function) (coroutine : f.coroutine ≡ true) (rules : KeepsFunctionRules m k f)
    (shape : KeepsShape k f) (paths : KeepsPaths k f) (save s : Point) (c : IsCallAt Intrinsic.CoroSave f save)
    (pair : suspend_of f save ≡ Some s) where
  suspends : IsCallAt Intrinsic.CoroSuspend f s
  suspends = suspend_is_suspend f save s pair

  abbrev behind : Point
  behind = record { block = s.block; at = s.at + 1 }

  -- not by the resume or destroy edge
  not_own : (r : Point) → has_point (own_edges f s) r ≡ true → ComesBy f save s r → ⊥
  not_own r first w =
      not_wrong k f coroutine rules.definitions shape.calls shape.switches paths.window paths.kept_value save s c pair
      (Back (record { first = r; is_first = first; comes_back = on w }))
    where
      on : ComesBy f save s r → (r ≡ s) ⊎ ((same_point r save ≡ false) × Leads f (save ∷ s ∷ []) r s)
      on (inl e) = inl e
      on (inr x) = inr (first_false (same_point r save) false x.0, until f save s r x.1.between x.1.is_path)

  -- not by the end
  not_end : (r : Point) → IsCallAt Intrinsic.CoroEnd f r → ComesBy f save s r → ⊥
  not_end r e (inl same) =
      let d : IsCallAt Intrinsic.CoroEnd f s = subst (IsCallAt Intrinsic.CoroEnd f) same e in
      let both : AtInstr suspends.instr ≡ AtInstr d.instr = sym suspends.stands ∙ d.stands in
      let one : suspends.instr ≡ d.instr = cc in
      suspend_no_end suspends.instr suspends.is (ap (is_call_of Intrinsic.CoroEnd) one ∙ d.is)
  not_end r e (inr x) =
      not_behind_end k f coroutine paths.outside Intrinsic.CoroSuspend suspend_ends s (record {
        start = r;
        is_start = where_complete (is_call_of Intrinsic.CoroEnd) f r e.instr
            (instr_there f r.block r.at e.instr e.stands) e.is;
        path = record {
          between = x.1.between;
          is_path = none_avoided f (save ∷ []) x.1.between r s x.1.is_path;
        };
      }) suspends

  module _ (arg : Arg) (default : ℕ) (cases : List Case)
      (stands : fetch f s.block (s.at + 1) ≡ AtTerm (Terminator.Switch arg default cases)) where
    ending : IsEnd f s.block (s.at + 1) (Terminator.Switch arg default cases)
    ending = term_there f s.block (s.at + 1) (Terminator.Switch arg default cases) stands

    label_is : (n : ℕ) → label_at n (slice_get f.blocks s.block) ≡ label_in n cases default
    label_is n = ap (label_at n) ending.got ∙ ap (label_of_term n) ending.is

    at_itself : (p : Point) → same_point p p ≡ true
    at_itself p = λ j. itself p.block j && itself p.at j

    by_label : (r : Point) (label : ℕ) → IsListed label (default ∷ map (λ k. k.target) cases) → r ≡ entry_point f label
        → ComesBy f save s r → ⊥
    by_label r label (inl e) is w =
        not_end r (subst (IsCallAt Intrinsic.CoroEnd f) (sym (is ∙ ap (entry_point f) e))
        (is_end k f coroutine shape.switches s suspends arg default cases stands rules.definitions shape.calls)) w
    by_label r label (inr h) is w =
        on (two_labels cases default label
        (both_cases k f coroutine shape.switches s suspends arg default cases stands) h)
      where
        on : (label ≡ label_in 0 cases default) ⊎ (label ≡ label_in 1 cases default) → ⊥
        on (inl e) =
            let there : r ≡ entry_point f (resume_label f s) = is ∙ ap (entry_point f) (e ∙ sym (label_is 0)) in
            not_own r (subst (λ (z : Point). has_point (own_edges f s) z ≡ true) (sym there)
            (ap (λ (b : Bool). b || has_point (entry_point f (destroy_label f s) ∷ [])
            (entry_point f (resume_label f s)))
            (at_itself (entry_point f (resume_label f s))))) w
        on (inr e) =
            let there : r ≡ entry_point f (destroy_label f s) = is ∙ ap (entry_point f) (e ∙ sym (label_is 1)) in
            not_own r (subst (λ (z : Point). has_point (own_edges f s) z ≡ true) (sym there)
            (later (same_point (entry_point f (destroy_label f s)) (entry_point f (resume_label f s)))
            (at_itself (entry_point f (destroy_label f s))))) w
          where
            later : (b : Bool) → same_point (entry_point f (destroy_label f s)) (entry_point f (destroy_label f s))
                ≡ true
                → (b || (same_point (entry_point f (destroy_label f s)) (entry_point f (destroy_label f s)) || false))
                ≡ true
            later true d = refl
            later false d = ap (λ (b : Bool). b || false) d

    by_edge : (r : Point) → has_point (nexts f (record { block = s.block; at = s.at + 1 })) r ≡ true
        → ComesBy f save s r → ⊥
    by_edge r h w = on (edge-cases f (record { block = s.block; at = s.at + 1 }) r h)
      where
        on : IsInner f (record { block = s.block; at = s.at + 1 }) r
            ⊎ IsBranch f (record { block = s.block; at = s.at + 1 }) r → ⊥
        on (inl x) =
            let both : Some x.block ≡ Some ending.own = sym x.got ∙ ending.got in
            let same : x.block ≡ ending.own = cc in
            let lengths : length x.block.instrs ≡ length ending.own.instrs = ap (λ (b : Block). length b.instrs) same in
            let last = ending.last in
            let within = x.within in
            absurd (omega (arith, lengths, last, within))
        on (inr x) =
            let both : Some x.block ≡ Some ending.own = sym x.got ∙ ending.got in
            let same : x.block ≡ ending.own = cc in
            let term : x.block.term ≡ Terminator.Switch arg default cases = ap (λ (b : Block). b.term) same
            ∙ ending.is in
            let z = entered_by f r (default ∷ map (λ k. k.target) cases)
            (subst (λ (t : Terminator). has_point (map (entry_point f) (targets t)) r ≡ true) term x.entry) in
            by_label r z.0 z.1 z.2 w

    none_by : (between : List Point) → IsPath f (save ∷ []) (record { block = s.block; at = s.at + 1 }) between s → ⊥
    none_by [] h = by_edge s h (inl refl)
    none_by (v ∷ between) h = by_edge v h.0 (inr (h.1, record { between = between; is_path = h.2 }))

  pub none_back : (record { block = s.block; at = s.at + 1 } ≡ s)
      ⊎ Leads f (save ∷ []) (record { block = s.block; at = s.at + 1 }) s → ⊥
  none_back (inl e) = let same : s.at + 1 ≡ s.at = ap (λ (p : Point). p.at) e in absurd (omega (arith, same))
  none_back (inr l) =
      let x = has_switch k f coroutine shape.switches s suspends in
      none_by x.0 x.1 x.2 x.3 l.between l.is_path
