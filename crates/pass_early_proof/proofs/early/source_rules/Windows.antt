-- A value of coro.frame that is made in a window isn't used behind it (rules K6 and K7).
use Rattle.std.proofs.Common.{◌≡◌, ◌⊎◌, inl, inr, ℕ, zero, suc, ◌+◌, Bool, true, false, List, [], ◌∷◌, refl, sym, ap, ◌∙◌, subst, arith}
use Rattle.std.specs.List.{cons_option, filter_map}
use Rattle.std.specs.Prelude.{IsTrue, IsFalse, Some, None, Option, option_and_then, option_map, slice_get, ◌||◌, ◌&&◌, if◌then◌else◌}
use Rattle.rule_laws.specs.rule_shape.OneOfEach.{wrong_call}
use Rattle.rule_laws.specs.rule_shape.Switches.{wrong_switch}
use Rattle.pass_early_proof.proofs.early.renaming.Invariant.{dead_next, unstopped_at}
use Rattle.rule_laws.proofs.ir_laws.facts.Truth.{equal_numbers}
use Rattle.rule_laws.proofs.rules.renamed.Outside.{at_point, none_breaks}
use Rattle.rule_laws.proofs.ir_laws.paths.renamed.Outside.{where_pass}
use Rattle.pass_early_proof.proofs.early.renaming.Simulation.{other_call}
use Rattle.pass_early_proof.proofs.early.renaming.Switches.{dead_behind_suspend}
use Rattle.rule_laws.proofs.rules.renamed.Uses.{result_spelt}
use Rattle.rule_laws.proofs.ir_laws.paths.renamed.Uses.{stands_in}
use Rattle.rule_laws.specs.ir_laws.paths.renamed.Regular.{IsDead, is_call_at, makes, stops}
use Rattle.pass_early_proof.specs.early.renaming.Regular.{IsDeadAt, IsDeadBehind}
use Rattle.rule_laws.specs.ir_laws.facts.renamed.Regular.{is_result, passes}
use Rattle.pass_early.specs.Early.{renaming_of}
use Rattle.rule_laws.proofs.rules.source_rules.Behind.{used_ahead, used_on_edge}
use Rattle.rule_laws.proofs.rules.source_rules.Ends.{end_first}
use Rattle.rule_laws.proofs.ir_laws.paths.source_rules.Locals.{listed_left, listed_right}
use Rattle.rule_laws.proofs.rules.source_rules.Locals.{no_phi, own_label}
use Rattle.rule_laws.proofs.ir_laws.facts.Lists.{phi_names}
use Rattle.rule_laws.proofs.ir_laws.paths.source_rules.Makers.{HasFrame}
use Rattle.pass_early_proof.proofs.early.source_rules.Makers.{not_frame}
use Rattle.rule_laws.proofs.rules.source_rules.Slots.{first_has}
use Rattle.rule_laws.specs.flow_solver.Paths.{IsListed}
use Rattle.rule_laws.specs.ir_parts.Locals.{locals_of}
use Rattle.rule_laws.specs.ir_parts.Parts.{parts_of}
use Rattle.ir_model.specs.Names.{position_of}
use Rattle.ir_model.specs.declared.instr.Instr.{Instr}
use Rattle.ir_model.specs.declared.instr.Phi.{Phi}
use Rattle.ir_model.specs.declared.module.Block.{Block}
use Rattle.ir_model.specs.declared.module.Function.{Function}
use Rattle.ir_model.specs.declared.operand.Intrinsic.{Intrinsic}
use Rattle.rule_laws.proofs.ir_paths.Search.{leads-more}
use Rattle.rule_laws.specs.ir_paths.Paths.{IsPath, Leads, has_point, same_point}
use Rattle.rule_laws.specs.ir_paths.Windows.{IsInWindow, call_result, destroy_label, instr_at, is_call_of, is_suspend_of, points_from, points_in, points_where, resume_label, suspend_of}
use Rattle.rule_laws.specs.ir_paths.declared.point.Point.{Point}
use Rattle.rule_laws.specs.rule_names.Definitions.{first_twice}
use Rattle.rule_laws.specs.run_step.Step.{phis_of}
use Rattle.rule_laws.specs.run_laws.changed.Changed.{Each, result_of}
use Rattle.rule_laws.specs.rule_windows.Points.{place_of}
use Rattle.rule_laws.specs.rule_windows.Windows.{Between, BreaksSave, BreaksWindow, Call, IsFirstWindow, IsWrong, NoPath, NotOne, ends_window, passes as window_passes, suspends_of}
use Rattle.rule_laws.specs.rule_window_values.Kept.{BreaksValue, ByInstr, IsFirstKept, IsMadeIn, IsUsedBehind, own_blocks}
use Rattle.rule_laws.proofs.ir_laws.paths.replaced.Known.{of_listed as each_at}
use Rattle.rule_laws.proofs.ir_laws.paths.source_rules.Windows.{listed_more, only_one}
use Rattle.rule_laws.proofs.rules.source_rules.Windows.{end_ends}

-- ---- the points of the instructions that pass a test

module _ (test : Instr → Bool) where
  listed_here : (b : Bool) (p : Point) (ps : List Point) → b ≡ true → IsListed p (if b then p ∷ ps else ps)
  listed_here true p ps e = inl refl
  listed_here false p ps e = absurd (cc)

  listed_later : (b : Bool) (q p : Point) (ps : List Point) → IsListed q ps → IsListed q (if b then p ∷ ps else ps)
  listed_later true q p ps h = inr h
  listed_later false q p ps h = h

  in_points : (block at : ℕ) (is : List Instr) (k : ℕ) (i : Instr) → slice_get is k ≡ Some i → test i ≡ true → IsListed (record { block = block; at = at + k }) (points_from test block at is)
  in_points block at [] k i e h = absurd (cc)
  in_points block at (x ∷ is) zero i e h =
      let same : at ≡ at + 0 = omega arith in
      let is_one : i ≡ x = cc in
      subst (λ (n : ℕ). IsListed (record { block = block; at = n }) (points_from test block at (x ∷ is))) same
      (listed_here (test x) (record { block = block; at = at }) (points_from test block (suc at) is) (ap test (sym is_one) ∙ h))
  in_points block at (x ∷ is) (suc k) i e h =
      let same : suc at + k ≡ at + suc k = omega arith in
      subst (λ (n : ℕ). IsListed (record { block = block; at = n }) (points_from test block at (x ∷ is))) same
      (listed_later (test x) (record { block = block; at = suc at + k }) (record { block = block; at = at }) (points_from test block (suc at) is) (in_points block (suc at) is k i e h))

  in_blocks : (block : ℕ) (bs : List Block) (k : ℕ) (b : Block) (at : ℕ) (i : Instr) → slice_get bs k ≡ Some b → slice_get b.instrs at ≡ Some i → test i ≡ true → IsListed (record { block = block + k; at = at }) (points_in test block bs)
  in_blocks block [] k b at i e d h = absurd (cc)
  in_blocks block (c ∷ bs) zero b at i e d h =
      let same : block ≡ block + 0 = omega arith in
      let is_one : b ≡ c = cc in
      let first : 0 + at ≡ at = omega arith in
      subst (λ (n : ℕ). IsListed (record { block = n; at = at }) (points_in test block (c ∷ bs))) same
      (listed_left (record { block = block; at = at }) (points_from test block 0 c.instrs) (points_in test (suc block) bs)
      (subst (λ (x : Block). IsListed (record { block = block; at = at }) (points_from test block 0 x.instrs)) is_one
      (subst (λ (n : ℕ). IsListed (record { block = block; at = n }) (points_from test block 0 b.instrs)) first (in_points block 0 b.instrs at i d h))))
  in_blocks block (c ∷ bs) (suc k) b at i e d h =
      let same : suc block + k ≡ block + suc k = omega arith in
      subst (λ (n : ℕ). IsListed (record { block = n; at = at }) (points_in test block (c ∷ bs))) same
      (listed_right (record { block = suc block + k; at = at }) (points_from test block 0 c.instrs) (points_in test (suc block) bs) (in_blocks (suc block) bs k b at i e d h))

  point_listed : (f : Function) (p : Point) (i : Instr) → instr_at f p ≡ Some i → test i ≡ true → IsListed p (points_where test f)
  point_listed f p i e h =
      let x = stands_in f p i e in
      let same : 0 + p.block ≡ p.block = omega arith in
      subst (λ (n : ℕ). IsListed (record { block = n; at = p.at }) (points_where test f)) same (in_blocks 0 f.blocks p.block x.block p.at i x.got x.stands h)

-- ---- what stands at a point

pub record IsThere (test : Instr → Bool) (o : Option Instr) : Type 0 where
  pub instr : Instr
  pub stands : o ≡ Some instr
  pub passes : test instr ≡ true

pub there : (test : Instr → Bool) (o : Option Instr) → passes test o ≡ true → IsThere test o
there test None e = absurd (cc)
there test (Some i) e = record { instr = i; stands = refl; passes = e }

result_there : (n : ℕ) (o : Option ℕ) → is_result n o ≡ true → o ≡ Some n
result_there n None e = absurd (cc)
result_there n (Some k) e = ap Some (equal_numbers k n e)

suspend_call : (token : Option ℕ) (i : Instr) → is_suspend_of token i ≡ true → is_call_of Intrinsic.CoroSuspend i ≡ true
suspend_call None i e = absurd (cc)
suspend_call (Some t) i e = both (is_call_of Intrinsic.CoroSuspend i) _ e
  where
    both : (a b : Bool) → (a && b) ≡ true → a ≡ true
    both true b d = refl
    both false b d = absurd (cc)

abbrev with_suspend : Function → Point → Option (Point × Point)
with_suspend f save = option_map (λ suspend. (save, suspend)) (suspend_of f save)

pair_listed : (f : Function) (k s : Point) (ks : List Point) → IsListed k ks → suspend_of f k ≡ Some s → IsListed {X = Point × Point} (k, s) (filter_map (with_suspend f) ks)
pair_listed f k s [] h e = absurd h
pair_listed f k s (x ∷ ks) (inl same) e =
    subst (λ (o : Option (Point × Point)). IsListed {X = Point × Point} (k, s) (cons_option o (filter_map (with_suspend f) ks))) (ap (with_suspend f) same)
    (subst (λ (o : Option Point). IsListed {X = Point × Point} (k, s) (cons_option (option_map (λ suspend. (k, suspend)) o) (filter_map (with_suspend f) ks))) (sym e) (inl refl))
pair_listed f k s (x ∷ ks) (inr h) e = listed_more {Y = Point × Point} (k, s) (with_suspend f x) (filter_map (with_suspend f) ks) (pair_listed f k s ks h e)

outside_both : (k s v : Point) → IsFalse (has_point (k ∷ s ∷ []) v) → (same_point v k ≡ false) × (same_point v s ≡ false)
outside_both k s v h = on (same_point v k) (same_point v s) h
  where
    on : (a b : Bool) → (a || (b || false)) ≡ false → (a ≡ false) × (b ≡ false)
    on true b e = absurd (cc)
    on false true e = absurd (cc)
    on false false e = (refl, refl)

module _ (func : ℕ) (f : Function) (coroutine : f.coroutine ≡ true) (once : first_twice [] (locals_of func f) ≡ None) (calls : wrong_call func f ≡ None) (switches : wrong_switch func f ≡ None) (window : IsFirstWindow func f None) (kept : IsFirstKept func f None) where
  not_broken : (k : Point) (i : Instr) → instr_at f k ≡ Some i → is_call_of Intrinsic.CoroSave i ≡ true → BreaksWindow f k → ⊥
  not_broken k i e is broken =
      each_at (λ x. BreaksSave f x → ⊥) (points_where (is_call_of Intrinsic.CoroSave) f) k
      (none_breaks (BreaksSave f) (place_of func f) (points_where (is_call_of Intrinsic.CoroSave) f) window)
      (point_listed (is_call_of Intrinsic.CoroSave) f k i e is) (coroutine, broken)

  -- what is no coro.frame doesn't make the value
  unmade : (n : ℕ) → HasFrame f n → (p : Point) (i : Instr) → instr_at f p ≡ Some i → is_call_of Intrinsic.CoroFrame i ≡ false → is_result n (result_of i) ≡ false
  unmade n frame p i e other = on (is_result n (result_of i)) refl
    where
      on : (b : Bool) → is_result n (result_of i) ≡ b → b ≡ false
      on true d = absurd (not_frame func f once p i n e (result_there n (result_of i) d) other frame)
      on false d = refl

  module _ (k s : Point) (n : ℕ) (frame : HasFrame f n) (i : Instr) (here : instr_at f k ≡ Some i) (is_save : is_call_of Intrinsic.CoroSave i ≡ true) (pair : suspend_of f k ≡ Some s) where
    abbrev ends : List Point
    ends = k ∷ s ∷ []

    one_suspend : suspends_of f k ≡ s ∷ []
    one_suspend = only_one (suspends_of f k) s pair (λ h. not_broken k i here is_save (NotOne h))

    not_wrong : IsWrong f k s → ⊥
    not_wrong w = not_broken k i here is_save (Between s one_suspend w)

    no_end : (v : Point) → IsInWindow f k s v → is_call_at f Intrinsic.CoroEnd v ≡ false
    no_end v inside = on (is_call_at f Intrinsic.CoroEnd v) refl
      where
        on : (b : Bool) → is_call_at f Intrinsic.CoroEnd v ≡ b → b ≡ false
        on true e =
            let x = there (is_call_of Intrinsic.CoroEnd) (instr_at f v) e in
            absurd (not_wrong (Call (record { point = v; is_inside = inside; ends = ap (window_passes ends_window) x.stands ∙ end_ends x.instr x.passes })))
        on false e = refl

    made_at : (v : Point) → IsInWindow f k s v → makes f n v ≡ true → IsMadeIn f k s n
    made_at v inside e =
        let x = there (λ j. is_result n (result_of j)) (instr_at f v) e in
        ByInstr v x.instr inside x.stands (result_spelt x.instr ∙ result_there n (result_of x.instr) x.passes)

    in_window : (between : List Point) (v : Point) → IsPath f ends v between s → IsFalse (has_point ends v) → Leads f ends k v → IsInWindow f k s v
    in_window between v path out to = record { is_not_save = (outside_both k s v out).0; is_not_suspend = (outside_both k s v out).1; from_save = to; to_suspend = record { between = between; is_path = path } }

    neither : (a b : Bool) → a ≡ false → b ≡ false → (a || b) ≡ false
    neither true b e d = e
    neither false b e d = d

    -- made in the window, or dead at the suspend
    abbrev IsSettled : Type 0
    IsSettled = IsMadeIn f k s n ⊎ IsDead f true n s

    at_point_of : (v : Point) → IsInWindow f k s v → (stops f true n v ≡ false → IsSettled) → IsSettled
    at_point_of v inside go = on (makes f n v) refl
      where
        on : (b : Bool) → makes f n v ≡ b → IsSettled
        on true e = inl (made_at v inside e)
        on false e = go (neither (is_call_at f Intrinsic.CoroEnd v) (makes f n v) (no_end v inside) e)

    -- from a point of the window on
    walk_on : (between : List Point) (v : Point) → IsPath f ends v between s → IsFalse (has_point ends v) → Leads f ends k v → IsDead f true n v → IsSettled
    walk_on [] v path out to dead = at_point_of v (in_window [] v path out to) (λ e. inr (dead_next f (renaming_of f) true n v s e path dead))
    walk_on (w ∷ more) v path out to dead =
        at_point_of v (in_window (w ∷ more) v path out to)
        (λ e. walk_on more w path.2 path.1 (leads-more f ends k v w to out path.0) (dead_next f (renaming_of f) true n v w e path.0 dead))

    open_save : stops f true n k ≡ false
    open_save = unstopped_at f (renaming_of f) true n k (Some i) here (other_call Intrinsic.CoroSave Intrinsic.CoroEnd i is_save refl) (unmade n frame k i here (other_call Intrinsic.CoroSave Intrinsic.CoroFrame i is_save refl))

    walk_from : IsDead f true n k → (between : List Point) → IsPath f ends k between s → IsSettled
    walk_from dead [] path = inr (dead_next f (renaming_of f) true n k s open_save path dead)
    walk_from dead (w ∷ more) path = walk_on more w path.2 path.1 (record { between = []; is_path = path.0 }) (dead_next f (renaming_of f) true n k w open_save path.0 dead)

    settled : IsDead f true n k → (IsSettled → ⊥) → ⊥
    settled dead go = not_wrong (NoPath (λ leads. go (walk_from dead leads.between leads.is_path)))

    -- K7: what is made in the window isn't used behind it
    no_use : IsMadeIn f k s n → IsUsedBehind func f s n → ⊥
    no_use made used =
        at_point (λ y. BreaksValue func f y → ⊥) func f frame.point frame.instr (none_breaks (BreaksValue func f) (λ y. y.0) (parts_of func f) kept) frame.stands
        (record {
          is_coroutine = coroutine;
          value = n;
          makes = result_spelt frame.instr ∙ frame.result;
          is_kept = record { save = k; suspend = s; is_save = pair_listed f k s (points_where (is_call_of Intrinsic.CoroSave) f) (point_listed (is_call_of Intrinsic.CoroSave) f k i here is_save) pair; is_made = made; is_used = used };
        })

    -- what stands at the suspend
    at_suspend : IsThere (is_suspend_of (option_and_then call_result (instr_at f k))) (instr_at f s)
    at_suspend = there (is_suspend_of (option_and_then call_result (instr_at f k))) (instr_at f s) (where_pass (is_suspend_of (option_and_then call_result (instr_at f k))) f s (first_has (points_where (is_suspend_of (option_and_then call_result (instr_at f k))) f) s pair))

    no_phis_in : (block : ℕ) (b : Block) → slice_get f.blocks block ≡ Some b → (ps : List Phi) → ((v : ℕ) → IsListed v (phi_names ps) → IsListed v (phi_names b.phis)) → Each (λ p. p.result ≡ n → ⊥) ps
    no_phis_in block b e [] all = tt
    no_phis_in block b e (p ∷ ps) all =
        (λ same. no_phi func f once block b frame.point frame.instr n e (subst (λ (v : ℕ). IsListed v (phi_names b.phis)) same (all p.result (inl refl))) frame.stands frame.result, no_phis_in block b e ps (λ v h. all v (inr h)))

    no_phis : (block : ℕ) → Each (λ p. p.result ≡ n → ⊥) (phis_of (slice_get f.blocks block))
    no_phis block = on (slice_get f.blocks block) refl
      where
        on : (o : Option Block) → slice_get f.blocks block ≡ o → Each (λ p. p.result ≡ n → ⊥) (phis_of o)
        on None e = tt
        on (Some b) e = no_phis_in block b e b.phis (λ v h. h)

    dead_at : (label : ℕ) → IsListed (position_of f label) (own_blocks f s) → IsMadeIn f k s n → IsDeadAt f n s label
    dead_at label own made =
        let x = stands_in f s at_suspend.instr at_suspend.stands in
        record {
          ahead = λ last path used. no_use made (used_ahead func f s n no_phis (own_label func f once) (end_first func f coroutine calls) label own last path used);
          not_taken = λ taken. no_use made (used_on_edge func f s n no_phis (own_label func f once) (end_first func f coroutine calls) label x.block x.got own taken);
        }

    settled_dead : IsSettled → IsDeadBehind f n s
    settled_dead (inl made) = record { resumed = dead_at (resume_label f s) (inl refl) made; destroyed = dead_at (destroy_label f s) (inr (inl refl)) made }
    settled_dead (inr dead) =
        let is = suspend_call (option_and_then call_result (instr_at f k)) at_suspend.instr at_suspend.passes in
        dead_behind_suspend func f coroutine switches (renaming_of f) n s at_suspend.instr at_suspend.stands is (unmade n frame s at_suspend.instr at_suspend.stands (other_call Intrinsic.CoroSuspend Intrinsic.CoroFrame at_suspend.instr is refl)) dead

    dead_both : IsDead f true n k → IsDeadBehind f n s
    dead_both dead = record {
      resumed = record { ahead = λ last path used. settled dead (λ x. (settled_dead x).resumed.ahead last path used); not_taken = λ taken. settled dead (λ x. (settled_dead x).resumed.not_taken taken) };
      destroyed = record { ahead = λ last path used. settled dead (λ x. (settled_dead x).destroyed.ahead last path used); not_taken = λ taken. settled dead (λ x. (settled_dead x).destroyed.not_taken taken) };
    }

  pub dead_behind_save : (k s : Point) (n : ℕ) → IsTrue (is_call_at f Intrinsic.CoroSave k) → suspend_of f k ≡ Some s → HasFrame f n → IsDead f true n k → IsDeadBehind f n s
  dead_behind_save k s n is pair frame dead =
      let x = there (is_call_of Intrinsic.CoroSave) (instr_at f k) is in
      dead_both k s n frame x.instr x.stands x.passes pair dead
