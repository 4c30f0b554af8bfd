-- A coroutine of a module that breaks no rule, whose begin had no name, keeps what the theorem on the renaming asks once it has one.
use Rattle.std.proofs.Common.{◌≡◌, ◌⊎◌, inl, inr, ℕ, zero, suc, ◌<◌, Bool, true, false, List, [], ◌∷◌, ◌++◌, length, refl, sym, ap, ◌∙◌, subst, arith}
use Rattle.std.specs.Prelude.{IsTrue, Some, None, Option, map, slice_get, ◌==◌}
use Rattle.rule_laws.specs.rule_shape.OneOfEach.{is_missing}
use Rattle.rule_laws.proofs.ir_laws.facts.Members.{at_each}
use Rattle.rule_laws.proofs.ir_laws.facts.Truth.{equal_numbers, second_of_three as missing_begin}
use Rattle.pass_early_proof.proofs.early.renaming.Simulation.{other_call}
use Rattle.rule_laws.proofs.ir_laws.paths.renamed.Uses.{stands_in}
use Rattle.rule_laws.specs.ir_laws.paths.renamed.Regular.{IsDead, is_call_at}
use Rattle.pass_early_proof.specs.early.renaming.Regular.{IsDeadBehind, IsMark, IsPlain, KeepsRules}
use Rattle.pass_early.specs.BeginName.{begin_name, begin_named, named_block, named_instr}
use Rattle.pass_early.specs.Early.{renaming_of}
use Rattle.pass_early.specs.Renaming.{is_renamed}
use Rattle.rule_laws.proofs.rules.source_rules.Locals.{no_param, no_phi, own_label, phi_below, result_below, same_instr}
use Rattle.rule_laws.proofs.ir_laws.facts.Lists.{phi_names}
use Rattle.rule_laws.proofs.ir_laws.paths.source_rules.Makers.{HasFrame}
use Rattle.pass_early_proof.proofs.early.source_rules.Makers.{renamed_frame, stays, to_is}
use Rattle.pass_early_proof.proofs.early.source_rules.NamedRules.{no_wrong_switch_now, none_outside_now}
use Rattle.pass_early_proof.proofs.early.source_rules.NamedUses.{Unnamed, none_undefined_now, unnamed_by}
use Rattle.pass_early_proof.proofs.early.source_rules.Naming.{block_back, block_there, call_at_same, call_back, call_same, dead_back, dead_behind_now, phis_same, position_same, promise_same, result_kept, result_named, Stood, stood, suspend_same}
use Rattle.rule_laws.proofs.rules.source_rules.Once.{first_call_at, none_missing, there_is}
use Rattle.rule_laws.proofs.rules.source_rules.Order.{IsUnbroken}
use Rattle.rule_laws.proofs.rules.source_rules.Slots.{MarksNone}
use Rattle.pass_early_proof.proofs.early.source_rules.Slots.{marked, promise}
use Rattle.pass_early_proof.proofs.early.source_rules.Windows.{dead_behind_save, there}
use Rattle.rule_laws.specs.rules.source_rules.Named.{HasTabledLocals}
use Rattle.rule_laws.specs.flow_solver.Paths.{IsListed}
use Rattle.ir_model.specs.Calls.{first_result, first_result_by, first_result_in, or_else, result_of_call}
use Rattle.ir_model.specs.Names.{position_of}
use Rattle.ir_model.specs.declared.instr.Instr.{Instr}
use Rattle.ir_model.specs.declared.instr.Phi.{Phi}
use Rattle.ir_model.specs.declared.module.Block.{Block}
use Rattle.ir_model.specs.declared.module.Function.{Function}
use Rattle.ir_model.specs.declared.module.Module.{Module}
use Rattle.ir_model.specs.declared.operand.Callee.{Callee}
use Rattle.ir_model.specs.declared.operand.Intrinsic.{Intrinsic}
use Rattle.rule_laws.specs.ir_paths.Windows.{instr_at, is_call_of, suspend_of}
use Rattle.rule_laws.specs.ir_paths.declared.point.Point.{Point}
use Rattle.rule_laws.specs.run_step.Step.{phis_of}
use Rattle.rule_laws.specs.run_laws.changed.Changed.{Each, result_of}

-- ---- the first begin with a name

module _ (n : ℕ) where
  call_named : (i : Instr) → is_call_of Intrinsic.CoroBegin i ≡ true → result_of_call Intrinsic.CoroBegin (named_instr n i) ≡ Some n
  call_named (Instr.Call result must_tail ty (Callee.Intrinsic Intrinsic.CoroBegin) args) e = refl
  call_named _ e = absurd (cc)

  call_none : (i : Instr) → is_call_of Intrinsic.CoroBegin i ≡ false → result_of_call Intrinsic.CoroBegin (named_instr n i) ≡ None
  call_none (Instr.Call result must_tail ty (Callee.Intrinsic Intrinsic.CoroBegin) args) e = absurd (cc)
  call_none _ e = refl

  named_in : (is : List Instr) (k : ℕ) (i : Instr) → slice_get is k ≡ Some i → is_call_of Intrinsic.CoroBegin i ≡ true → first_result_in Intrinsic.CoroBegin (map (named_instr n) is) ≡ Some n
  named_in [] k i e is_call = absurd (cc)
  named_in (x ∷ is) k i e is_call = on (is_call_of Intrinsic.CoroBegin x) refl k e (λ j d. named_in is j i d is_call)
    where
      on : (b : Bool) → is_call_of Intrinsic.CoroBegin x ≡ b → (k : ℕ) → slice_get (x ∷ is) k ≡ Some i → ((j : ℕ) → slice_get is j ≡ Some i → first_result_in Intrinsic.CoroBegin (map (named_instr n) is) ≡ Some n) → or_else (result_of_call Intrinsic.CoroBegin (named_instr n x)) (first_result_in Intrinsic.CoroBegin (map (named_instr n) is)) ≡ Some n
      on true d j here rest = ap (λ (o : Option ℕ). or_else o (first_result_in Intrinsic.CoroBegin (map (named_instr n) is))) (call_named x d)
      on false d zero here rest = let same : x ≡ i = cc in let t : false ≡ true = sym d ∙ ap (is_call_of Intrinsic.CoroBegin) same ∙ is_call in absurd (cc)
      on false d (suc j) here rest = ap (λ (o : Option ℕ). or_else o (first_result_in Intrinsic.CoroBegin (map (named_instr n) is))) (call_none x d) ∙ rest j here

  either_in : (is : List Instr) → (first_result_in Intrinsic.CoroBegin (map (named_instr n) is) ≡ Some n) ⊎ (first_result_in Intrinsic.CoroBegin (map (named_instr n) is) ≡ None)
  either_in [] = inr refl
  either_in (x ∷ is) = on (is_call_of Intrinsic.CoroBegin x) refl (either_in is)
    where
      on : (b : Bool) → is_call_of Intrinsic.CoroBegin x ≡ b → (first_result_in Intrinsic.CoroBegin (map (named_instr n) is) ≡ Some n) ⊎ (first_result_in Intrinsic.CoroBegin (map (named_instr n) is) ≡ None) → (or_else (result_of_call Intrinsic.CoroBegin (named_instr n x)) (first_result_in Intrinsic.CoroBegin (map (named_instr n) is)) ≡ Some n) ⊎ (or_else (result_of_call Intrinsic.CoroBegin (named_instr n x)) (first_result_in Intrinsic.CoroBegin (map (named_instr n) is)) ≡ None)
      on true d h = inl (ap (λ (o : Option ℕ). or_else o (first_result_in Intrinsic.CoroBegin (map (named_instr n) is))) (call_named x d))
      on false d (inl h) = inl (ap (λ (o : Option ℕ). or_else o (first_result_in Intrinsic.CoroBegin (map (named_instr n) is))) (call_none x d) ∙ h)
      on false d (inr h) = inr (ap (λ (o : Option ℕ). or_else o (first_result_in Intrinsic.CoroBegin (map (named_instr n) is))) (call_none x d) ∙ h)

  named_by : (bs : List Block) (k : ℕ) (b : Block) → slice_get bs k ≡ Some b → first_result_in Intrinsic.CoroBegin (map (named_instr n) b.instrs) ≡ Some n → first_result_by Intrinsic.CoroBegin (map (named_block n) bs) ≡ Some n
  named_by [] k b e h = absurd (cc)
  named_by (c ∷ bs) zero b e h =
      let same : b ≡ c = cc in
      ap (λ (o : Option ℕ). or_else o (first_result_by Intrinsic.CoroBegin (map (named_block n) bs))) (subst (λ (x : Block). first_result_in Intrinsic.CoroBegin (map (named_instr n) x.instrs) ≡ Some n) same h)
  named_by (c ∷ bs) (suc k) b e h = on (either_in c.instrs) (named_by bs k b e h)
    where
      on : (first_result_in Intrinsic.CoroBegin (map (named_instr n) c.instrs) ≡ Some n) ⊎ (first_result_in Intrinsic.CoroBegin (map (named_instr n) c.instrs) ≡ None) → first_result_by Intrinsic.CoroBegin (map (named_block n) bs) ≡ Some n → or_else (first_result_in Intrinsic.CoroBegin (map (named_instr n) c.instrs)) (first_result_by Intrinsic.CoroBegin (map (named_block n) bs)) ≡ Some n
      on (inl d) rest = ap (λ (o : Option ℕ). or_else o (first_result_by Intrinsic.CoroBegin (map (named_block n) bs))) d
      on (inr d) rest = ap (λ (o : Option ℕ). or_else o (first_result_by Intrinsic.CoroBegin (map (named_block n) bs))) d ∙ rest

  -- what is no begin stays
  instr_kept : (i : Instr) → is_call_of Intrinsic.CoroBegin i ≡ false → named_instr n i ≡ i
  instr_kept (Instr.Call result must_tail ty (Callee.Intrinsic Intrinsic.CoroBegin) args) e = absurd (cc)
  instr_kept _ e = refl

longer : {A : Type 0} (xs : List A) (x : A) → length xs < length (xs ++ x ∷ [])
longer [] x = omega arith
longer (y ∷ xs) x = let lt = longer xs x in omega (arith, lt)

-- ---- markers

-- a function that has no other values of coro.frame marks none of them either
pub by_marks : (f g : Function) → ((v : ℕ) → HasFrame g v → HasFrame f v) → (i : Instr) → MarksNone f i → IsMark (renaming_of g) i
by_marks f g back (Instr.Call result must_tail ty callee args) h = λ lifetime v listed. stays g v (λ x. h lifetime v listed (back v x))
by_marks f g back (Instr.Alloca name ty align) h = tt
by_marks f g back (Instr.Binary r op flags ty a b) h = tt
by_marks f g back (Instr.Icmp r pred ty a b) h = tt
by_marks f g back (Instr.Select r c a b) h = tt
by_marks f g back (Instr.Cast r op nneg arg to) h = tt
by_marks f g back (Instr.Load r ty p align) h = tt
by_marks f g back (Instr.Store arg p align) h = tt
by_marks f g back (Instr.Gep r inbounds ty base indices) h = tt

begin_mark : (g : Function) (n : ℕ) (i : Instr) → is_call_of Intrinsic.CoroBegin i ≡ true → IsMark (renaming_of g) (named_instr n i)
begin_mark g n (Instr.Call result must_tail ty (Callee.Intrinsic Intrinsic.CoroBegin) args) e = λ lifetime v listed. absurd (cc)
begin_mark g n _ e = absurd (cc)

module _ (m : Module) (func : ℕ) (f : Function) (coroutine : f.coroutine ≡ true) (h : IsUnbroken m func f) (none : first_result Intrinsic.CoroBegin f ≡ None) (tabled : HasTabledLocals func f) where
  abbrev n : ℕ
  n = length f.names

  abbrev g : Function
  g = begin_named f

  unnamed_at : (p : Point) (i : Instr) → instr_at f p ≡ Some i → is_call_of Intrinsic.CoroBegin i ≡ true → result_of i ≡ None
  unnamed_at p i e =
      let x = stands_in f p i e in
      at_each Unnamed x.block.instrs p.at i (at_each (λ (b : Block). Each Unnamed b.instrs) f.blocks p.block x.block (unnamed_by f.blocks none) x.got) x.stands

  -- begin's value has the new name
  named_now : first_result Intrinsic.CoroBegin g ≡ Some n
  named_now =
      let there_too = there_is Intrinsic.CoroBegin f (missing_begin (is_missing Intrinsic.CoroId f) (is_missing Intrinsic.CoroBegin f) (is_missing Intrinsic.CoroEnd f) (none_missing func f coroutine h.calls)) in
      let q = first_call_at f Intrinsic.CoroBegin there_too.0 there_too.1 in
      let x = stands_in f q.point there_too.0 q.stands in
      named_by n f.blocks q.point.block x.block x.got (named_in n x.block.instrs q.point.at there_too.0 x.stands q.is_call)

  to_now : (renaming_of g).to ≡ n
  to_now = to_is g n named_now

  -- ---- values of coro.frame

  frame_back : (v : ℕ) → HasFrame g v → HasFrame f v
  frame_back v x =
      let y = stood f x.point x.instr x.stands in
      let is_frame : is_call_of Intrinsic.CoroFrame y.old ≡ true = call_back n Intrinsic.CoroFrame y.old (ap (is_call_of Intrinsic.CoroFrame) (sym y.is) ∙ x.is_call) in
      record {
        point = x.point;
        instr = y.old;
        stands = y.stands;
        is_call = is_frame;
        result = sym (result_kept n y.old (other_call Intrinsic.CoroFrame Intrinsic.CoroBegin y.old is_frame refl)) ∙ ap result_of (sym y.is) ∙ x.result;
      }

  frame_below : (v : ℕ) → HasFrame f v → v < n
  frame_below v x = result_below func f tabled x.point x.instr v x.stands x.result

  not_itself : (a b : ℕ) → b < a → (a == b) ≡ false
  not_itself a b lt = on (a == b) refl
    where
      on : (t : Bool) → (a == b) ≡ t → t ≡ false
      on true e = let same : a ≡ b = equal_numbers a b e in absurd (omega (arith, same, lt))
      on false e = refl

  no_less : (a b : ℕ) → a < b → a ≡ b → ⊥
  no_less a b lt same = omega (arith, lt, same)

  frame_calls_now : (p : Point) (i : Instr) (v : ℕ) → instr_at g p ≡ Some i → result_of i ≡ Some v → is_renamed (renaming_of g) v ≡ true → is_call_of Intrinsic.CoroFrame i ≡ true
  frame_calls_now p i v e r renamed = on (is_call_of Intrinsic.CoroBegin y.old) refl
    where
      y : Stood f p i
      y = stood f p i e

      z : HasFrame f v
      z = frame_back v (renamed_frame g v renamed)

      on : (b : Bool) → is_call_of Intrinsic.CoroBegin y.old ≡ b → is_call_of Intrinsic.CoroFrame i ≡ true
      on true d =
          let both : Some v ≡ Some n = sym r ∙ ap result_of y.is ∙ result_named n y.old d in
          let same : v ≡ n = cc in
          absurd (no_less v n (frame_below v z) same)
      on false d =
          let same : y.old ≡ z.instr = same_instr func f h.locals p z.point y.old z.instr v y.stands z.stands (sym (result_kept n y.old d) ∙ ap result_of (sym y.is) ∙ r) z.result in
          ap (is_call_of Intrinsic.CoroFrame) y.is ∙ call_same n Intrinsic.CoroFrame y.old ∙ ap (is_call_of Intrinsic.CoroFrame) same ∙ z.is_call

  begin_calls_now : (p : Point) (i : Instr) → instr_at g p ≡ Some i → result_of i ≡ Some (renaming_of g).to → is_call_of Intrinsic.CoroBegin i ≡ true
  begin_calls_now p i e r = on (is_call_of Intrinsic.CoroBegin y.old) refl
    where
      y : Stood f p i
      y = stood f p i e

      on : (b : Bool) → is_call_of Intrinsic.CoroBegin y.old ≡ b → is_call_of Intrinsic.CoroBegin i ≡ true
      on true d = ap (is_call_of Intrinsic.CoroBegin) y.is ∙ call_same n Intrinsic.CoroBegin y.old ∙ d
      on false d = absurd (no_less n n (result_below func f tabled p y.old n y.stands (sym (result_kept n y.old d) ∙ ap result_of (sym y.is) ∙ r ∙ ap Some to_now)) refl)

  begins_now : (p : Point) (i : Instr) → instr_at g p ≡ Some i → is_call_of Intrinsic.CoroBegin i ≡ true → result_of i ≡ Some (renaming_of g).to
  begins_now p i e is =
      let y = stood f p i e in
      ap result_of y.is ∙ result_named n y.old (call_back n Intrinsic.CoroBegin y.old (ap (is_call_of Intrinsic.CoroBegin) (sym y.is) ∙ is)) ∙ ap Some (sym to_now)

  plain_phi : (block : ℕ) (b : Block) (v : ℕ) → slice_get f.blocks block ≡ Some b → IsListed v (phi_names b.phis) → IsPlain (renaming_of g) v
  plain_phi block b v e listed = record {
    stays = stays g v (λ x. let z = frame_back v x in no_phi func f h.locals block b z.point z.instr v e listed z.stands z.result);
    is_other = ap (λ (k : ℕ). v == k) to_now ∙ not_above v n (phi_below func f tabled block b v e listed);
  }
    where
      not_above : (a b : ℕ) → a < b → (a == b) ≡ false
      not_above a b lt = on (a == b) refl
        where
          on : (t : Bool) → (a == b) ≡ t → t ≡ false
          on true e = let same : a ≡ b = equal_numbers a b e in absurd (omega (arith, same, lt))
          on false e = refl

  plain_phis : (block : ℕ) (b : Block) → slice_get f.blocks block ≡ Some b → (ps : List Phi) → ((v : ℕ) → IsListed v (phi_names ps) → IsListed v (phi_names b.phis)) → Each (λ p. IsPlain (renaming_of g) p.result) ps
  plain_phis block b e [] all = tt
  plain_phis block b e (p ∷ ps) all = (plain_phi block b p.result e (all p.result (inl refl)), plain_phis block b e ps (λ v k. all v (inr k)))

  phis_now : (block : ℕ) → Each (λ p. IsPlain (renaming_of g) p.result) (phis_of (slice_get g.blocks block))
  phis_now block = subst (λ (ps : List Phi). Each (λ p. IsPlain (renaming_of g) p.result) ps) (sym (ap phis_of (block_there f block) ∙ phis_same f (slice_get f.blocks block))) (on (slice_get f.blocks block) refl)
    where
      on : (o : Option Block) → slice_get f.blocks block ≡ o → Each (λ p. IsPlain (renaming_of g) p.result) (phis_of o)
      on None e = tt
      on (Some b) e = plain_phis block b e b.phis (λ v k. k)

  labels_now : (k : ℕ) (b : Block) → slice_get g.blocks k ≡ Some b → position_of g b.label ≡ k
  labels_now k b e =
      let x = block_back f k b e in
      let c : Block = x.0 in
      ap (λ (y : Block). position_of g y.label) x.1.1 ∙ position_same f c.label ∙ own_label func f h.locals k c x.1.0

  dead_now : (k s : Point) (v : ℕ) → IsTrue (is_call_at g Intrinsic.CoroSave k) → suspend_of g k ≡ Some s → is_renamed (renaming_of g) v ≡ true → IsDead g true v k → IsDeadBehind g v s
  dead_now k s v is pair renamed dead =
      let z : HasFrame f v = frame_back v (renamed_frame g v renamed) in
      let is_save : is_call_at f Intrinsic.CoroSave k ≡ true = sym (call_at_same f Intrinsic.CoroSave k) ∙ is in
      let x = there (is_call_of Intrinsic.CoroSave) (instr_at f k) is_save in
      let pair_too : suspend_of f k ≡ Some s = sym (suspend_same f k x.instr x.stands (other_call Intrinsic.CoroSave Intrinsic.CoroBegin x.instr x.passes refl)) ∙ pair in
      let other : (n == v) ≡ false = not_itself n v (frame_below v z) in
      dead_behind_now f v unnamed_at other s (dead_behind_save func f coroutine h.locals h.calls h.switches h.window h.kept_value k s v is_save pair_too z (dead_back f v unnamed_at other k dead))

  marks_now : (p : Point) (i : Instr) → instr_at g p ≡ Some i → IsMark (renaming_of g) i
  marks_now p i e = subst (IsMark (renaming_of g)) (sym y.is) (on (is_call_of Intrinsic.CoroBegin y.old) refl)
    where
      y : Stood f p i
      y = stood f p i e

      on : (b : Bool) → is_call_of Intrinsic.CoroBegin y.old ≡ b → IsMark (renaming_of g) (named_instr n y.old)
      on true d = begin_mark g n y.old d
      on false d = subst (IsMark (renaming_of g)) (sym (instr_kept n y.old d)) (by_marks f g frame_back y.old (marked m func f h.locals h.marks p y.old y.stands))

  pub keeps_named : KeepsRules func g
  keeps_named = record {
    undefined_use = none_undefined_now f none func h.undefined_use;
    outside = none_outside_now f func h.outside;
    frame_calls = frame_calls_now;
    begin_calls = begin_calls_now;
    begins = begins_now;
    phis = phis_now;
    params = λ v renamed listed. let x = frame_back v (renamed_frame g v renamed) in no_param func f h.locals x.point x.instr v x.stands x.result listed;
    labels = labels_now;
    has_begin = subst (λ (k : ℕ). k < length (f.names ++ begin_name ∷ [])) (sym to_now) (longer f.names begin_name);
    dead_behind_save = dead_now;
    switches = no_wrong_switch_now f func coroutine h.switches;
    promise = λ v e. stays g v (λ x. promise func f coroutine h.calls h.locals h.promise v (sym (promise_same f) ∙ e) (frame_back v x));
    marks = marks_now;
  }
