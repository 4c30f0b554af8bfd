-- What the first pass makes of a coroutine uses no value of coro.frame.
use Rattle.std.proofs.Common.{◌≡◌, inl, inr, ⊎_elim, ℕ, ◌<◌, Bool, true, false, List, [], ◌∷◌, length, refl, sym, ap, ◌∙◌, subst}
use Rattle.std.specs.List.{list_all}
use Rattle.std.specs.Prelude.{None, Option, Some, map, not, slice_get, if◌then◌else◌, ◌&&◌, ◌==◌}
use Rattle.rule_laws.specs.ir_base.declared.outcome.Place.{Place}
use Rattle.pass_early.specs.BeginName.{if_unnamed}
use Rattle.pass_early.specs.Early.{early_named, renaming_of, renaming_to, save_call}
use Rattle.pass_early.specs.Renaming.{is_renamed, renamed, renamed_arg, renamed_instr, renamed_term, renamed_value}
use Rattle.pass_early.specs.declared.renaming.Renaming.{Renaming}
use Rattle.rule_laws.proofs.ir_laws.facts.Truth.{equal_numbers, and_both, and_first, and_second, holds}
use Rattle.pass_early_proof.proofs.early.local_rules.Rules.{all_in_args, all_in_instr, all_in_phi}
use Rattle.pass_early_proof.proofs.early.local_rules.Turned.{Any, Begins, Further, NoBlock, Nothing, OneMore, Saves, Stays, Turns, TurnsAll, TurnsBlocks, marked_blocks, turned_as}
use Rattle.rule_laws.proofs.ir_laws.paths.source_rules.Locals.{listed_either}
use Rattle.rule_laws.proofs.rules.source_rules.Locals.{same_instr}
use Rattle.rule_laws.specs.flow_solver.Paths.{IsListed}
use Rattle.rule_laws.specs.rules.function_rules.Kept.{KeepsFunctionRules}
use Rattle.rule_laws.specs.ir_parts.Contents.{arg_operands, ending_operands, instr_operands, part_operands, result_of}
use Rattle.rule_laws.specs.ir_parts.Parts.{OfPhi, first_part, parts_of}
use Rattle.ir_model.specs.Calls.{first_result}
use Rattle.ir_model.specs.Layout.{same_type}
use Rattle.ir_model.specs.Ty.{Ty}
use Rattle.ir_model.specs.declared.instr.Case.{Case}
use Rattle.ir_model.specs.declared.instr.Instr.{Instr}
use Rattle.ir_model.specs.declared.instr.Terminator.{Terminator}
use Rattle.ir_model.specs.declared.module.Block.{Block}
use Rattle.ir_model.specs.declared.module.Function.{Function}
use Rattle.ir_model.specs.declared.module.Module.{Module}
use Rattle.ir_model.specs.declared.operand.Arg.{Arg}
use Rattle.ir_model.specs.declared.operand.Callee.{Callee}
use Rattle.ir_model.specs.declared.operand.Intrinsic.{Intrinsic}
use Rattle.ir_model.specs.declared.operand.Operand.{Operand}
use Rattle.rule_laws.specs.ir_paths.Windows.{instr_at, instr_in, is_call_of}
use Rattle.rule_laws.specs.ir_paths.declared.point.Point.{Point}
use Rattle.rule_laws.proofs.rules.shape.Begin.{begin_result}
use Rattle.rule_laws.proofs.rules.shape.Stands.{begin_stands}
use Rattle.pass_early_proof.proofs.early.unused_frames.Flags.{IsFrame, frame_renamed}
use Rattle.rule_laws.proofs.ir_laws.paths.unused.Standing.{IsAt, stands_at}
use Rattle.rule_laws.specs.rules.unused.Unused.{is_other, names_value}
use Rattle.rule_laws.specs.run_laws.changed.Changed.{Each}
use Rattle.rule_laws.specs.rule_values.Fits.{fits_arg, fits_integer}
use Rattle.rule_laws.specs.rule_values.Kinds.{value_kind}
use Rattle.rule_laws.specs.rule_values.Switches.{any_twice, bits_in, case_word, fits_case, is_constant}
use Rattle.rule_laws.specs.rule_values.Values.{breaks_values, fits_ending, first_wrong_value}
use Rattle.rule_laws.specs.rule_values.declared.kinds.Kind.{Kind}
use Rattle.rule_laws.proofs.ir_laws.facts.Members.{each_by as each_got}
use Rattle.rule_laws.proofs.ir_laws.paths.edges.Lists.{listed_at as got_listed}
use Rattle.pass_early_proof.proofs.early.local_rules.Carried as early

-- ---- renamed operands are others than a value that is renamed

module _ (r : Renaming) (v : ℕ) (other : r.to ≡ v → ⊥) (flagged : is_renamed r v ≡ true) where
  value_other : (n : ℕ) → renamed_value r n ≡ v → ⊥
  value_other n = on (is_renamed r n) refl
    where
      on : (b : Bool) → is_renamed r n ≡ b → (if b then r.to else n) ≡ v → ⊥
      on true h e = other e
      on false h e = let bad : true ≡ false = sym flagged ∙ ap (is_renamed r) (sym e) ∙ h in absurd (cc)

  number_other : (n : ℕ) → (n ≡ v → ⊥) → is_other v (Operand.Local n) ≡ true
  number_other n h = on (v == n) refl
    where
      on : (b : Bool) → (v == n) ≡ b → not b ≡ true
      on true e = absurd (h (sym (equal_numbers v n e)))
      on false e = refl

  operand_other : (x : Operand) → is_other v (renamed r x) ≡ true
  operand_other (Operand.Local n) = number_other (renamed_value r n) (value_other n)
  operand_other (Operand.Global n) = refl
  operand_other (Operand.Number z) = refl
  operand_other Operand.True = refl
  operand_other Operand.False = refl
  operand_other Operand.Null = refl
  operand_other Operand.None = refl
  operand_other Operand.Poison = refl

  abbrev any : Operand → Bool
  any x = true

  all_any : (xs : List Operand) → list_all any xs ≡ true
  all_any [] = refl
  all_any (x ∷ xs) = all_any xs

  over : (x : Operand) → any x ≡ true → is_other v (renamed r x) ≡ true
  over x e = operand_other x

  instr_other : (i : Instr) → list_all (is_other v) (instr_operands (renamed_instr r i)) ≡ true
  instr_other i = all_in_instr r any (is_other v) over i (all_any (instr_operands i))

  args_other : (args : List Arg) → list_all (is_other v) (arg_operands (map (renamed_arg r) args)) ≡ true
  args_other args = all_in_args r any (is_other v) over args (all_any (arg_operands args))

  abbrev Fresh : ℕ → Type 0
  Fresh n = n ≡ v → ⊥

  turned_over : (p : Place) (i : Instr) (js : List Instr) → Turns r Fresh i js → Each (early.StaysOut (names_value v) p) js
  turned_over p i _ (Stays _) = ((λ q d. ap not (instr_other i)), tt)
  turned_over p _ _ (Begins n result must_tail ty args) = ((λ q d. ap not (args_other args)), tt)
  turned_over p _ _ (Saves n result must_tail ty a args number none) = (
    (λ q d. refl),
    ((λ q d. ap not (and_both (is_other v (Operand.Local n)) (list_all (is_other v) (arg_operands (map (renamed_arg r) args))) (number_other n number) (args_other args))), tt),
  )

  -- the values of a switch's cases are constants
  constant_other : (x : Operand) → is_constant x ≡ true → is_other v x ≡ true
  constant_other (Operand.Local n) e = absurd (cc)
  constant_other _ e = refl

  module _ (m : Module) (kinds : ℕ → Option Kind) (ty : Option Ty) where
    case_other : (t : Ty) (k : Case) → fits_case kinds t k ≡ true → is_other v k.arg.value ≡ true
    case_other t k e =
        constant_other k.arg.value (and_first (is_constant k.arg.value) (fits_arg kinds k.arg) (and_second (same_type k.arg.ty t) (is_constant k.arg.value && fits_arg kinds k.arg) e))

    cases_other : (t : Ty) (ks : List Case) → list_all (fits_case kinds t) ks ≡ true → list_all (is_other v) (map (λ k. k.arg.value) ks) ≡ true
    cases_other t [] e = refl
    cases_other t (k ∷ ks) e =
        and_both (is_other v k.arg.value) (list_all (is_other v) (map (λ x. x.arg.value) ks)) (case_other t k (and_first (fits_case kinds t k) (list_all (fits_case kinds t) ks) e)) (cases_other t ks (and_second (fits_case kinds t k) (list_all (fits_case kinds t) ks) e))

    term_other : (t : Terminator) → fits_ending kinds ty t ≡ true → list_all (is_other v) (ending_operands (renamed_term r t)) ≡ true
    term_other (Terminator.Jump label) e = refl
    term_other (Terminator.Branch c a b) e = and_both (is_other v (renamed r c)) true (operand_other c) refl
    term_other (Terminator.Switch arg default cases) e =
        let distinct : Bool = not (any_twice [] (map (case_word (bits_in arg.ty)) cases)) in
        and_both (is_other v (renamed r arg.value)) (list_all (is_other v) (map (λ k. k.arg.value) cases)) (operand_other arg.value)
        (cases_other arg.ty cases (and_first (list_all (fits_case kinds arg.ty) cases) distinct (and_second (fits_integer kinds arg) (list_all (fits_case kinds arg.ty) cases && distinct) e)))
    term_other (Terminator.Ret None) e = refl
    term_other (Terminator.Ret (Some a)) e = and_both (is_other v (renamed r a.value)) true (operand_other a.value) refl
    term_other Terminator.Unreachable e = refl

    unused_over : (f g : Function) → early.Carries r Fresh f g (breaks_values m kinds ty) (names_value v)
    unused_over f g =
        record {
          signature = λ p e. refl;
          head = λ p b c d e. refl;
          phi = λ p x e. ap not (all_in_phi r any (is_other v) over x (all_any (part_operands (OfPhi x))));
          instr = λ p i js t e. turned_over p i js t;
          ending = λ p q t e. ap not (term_other t (holds (fits_ending kinds ty t) e));
        }

-- ---- what makes it

module _ (r : Renaming) (fresh : ℕ → Type 0) (v : ℕ) where
  call_same : (i : Instr) → is_call_of Intrinsic.CoroFrame (renamed_instr r i) ≡ is_call_of Intrinsic.CoroFrame i
  call_same (Instr.Call result must_tail ty (Callee.Intrinsic x) args) = refl
  call_same (Instr.Call result must_tail ty (Callee.Named n) args) = refl
  call_same (Instr.Call result must_tail ty (Callee.Allocator a) args) = refl
  call_same (Instr.Call result must_tail ty (Callee.Local n) args) = refl
  call_same _ = refl

  result_same : (i : Instr) → result_of (renamed_instr r i) ≡ result_of i
  result_same (Instr.Call result must_tail ty callee args) = refl
  result_same _ = refl

  frame_before : (i j : Instr) → j ≡ renamed_instr r i → IsFrame v j → IsFrame v i
  frame_before i j e h = record { calls = sym (call_same i) ∙ ap (is_call_of Intrinsic.CoroFrame) (sym e) ∙ h.calls; makes = sym (result_same i) ∙ ap result_of (sym e) ∙ h.makes }

  not_frame : (i j : Instr) → j ≡ i → is_call_of Intrinsic.CoroFrame i ≡ false → IsFrame v j → {A : Type 0} → A
  not_frame i j e none h = let bad : true ≡ false = sym h.calls ∙ ap (is_call_of Intrinsic.CoroFrame) e ∙ none in absurd (cc)

  one_back : (i : Instr) (js : List Instr) → Turns r fresh i js → (j : Instr) → IsListed j js → IsFrame v j → IsFrame v i
  one_back i _ (Stays _) j (inl e) h = frame_before i j e h
  one_back i _ (Stays _) j (inr l) h = absurd l
  one_back _ _ (Begins n result must_tail ty args) j (inl e) h = not_frame (Instr.Call (Some n) must_tail ty (Callee.Intrinsic Intrinsic.CoroBegin) (map (renamed_arg r) args)) j e refl h
  one_back _ _ (Begins n result must_tail ty args) j (inr l) h = absurd l
  one_back _ _ (Saves n result must_tail ty a args number none) j (inl e) h = not_frame (save_call n) j e refl h
  one_back _ _ (Saves n result must_tail ty a args number none) j (inr (inl e)) h = not_frame (Instr.Call result must_tail ty (Callee.Intrinsic Intrinsic.CoroSuspend) (record { ty = a.ty; value = Operand.Local n } ∷ map (renamed_arg r) args)) j e refl h
  one_back _ _ (Saves n result must_tail ty a args number none) j (inr (inr l)) h = absurd l

  record FrameIn (is : List Instr) : Type 0 where
    instr : Instr
    listed : IsListed instr is
    makes : IsFrame v instr

  all_back : (is js : List Instr) → TurnsAll r fresh is js → (j : Instr) → IsListed j js → IsFrame v j → FrameIn is
  all_back _ _ Nothing j l h = absurd l
  all_back _ _ (Further i is js ks t rest) j l h =
      ⊎_elim
      (λ a. record { instr = i; listed = inl refl; makes = one_back i js t j a h })
      (λ b. let x = all_back is ks rest j b h in record { instr = x.instr; listed = inr x.listed; makes = x.makes })
      (listed_either j js ks l)

  record FrameAmong (bs : List Block) : Type 0 where
    block : Block
    among : IsListed block bs
    frame : FrameIn block.instrs

  blocks_back : (bs cs : List Block) → TurnsBlocks r fresh bs cs → (c : Block) → IsListed c cs → (j : Instr) → IsListed j c.instrs → IsFrame v j → FrameAmong bs
  blocks_back _ _ NoBlock c at j l h = absurd at
  blocks_back _ _ (OneMore b d bs cs t rest) c (inl e) j l h = record { block = b; among = inl refl; frame = all_back b.instrs d.instrs t.instrs j (subst (λ (x : Block). IsListed j x.instrs) e l) h }
  blocks_back _ _ (OneMore b d bs cs t rest) c (inr at) j l h = let x = blocks_back bs cs rest c at j l h in record { block = x.block; among = inr x.among; frame = x.frame }

module _ (m n : Module) (k : ℕ) (f g : Function) (o : Option ℕ) (is : g ≡ early_named (if_unnamed o f)) (values : first_wrong_value m k f ≡ None) (below : (v : ℕ) (b : Block) (i : Instr) → IsListed b f.blocks → IsListed i b.instrs → result_of i ≡ Some v → v < length f.names) (rules : KeepsFunctionRules n k g) (begin : ℕ) (named : first_result Intrinsic.CoroBegin (if_unnamed o f) ≡ Some begin) (named_now : first_result Intrinsic.CoroBegin g ≡ Some begin) where
  abbrev r : Renaming
  r = renaming_of (if_unnamed o f)

  turned : TurnsBlocks r Any f.blocks g.blocks
  turned = subst (λ (x : Function). TurnsBlocks r Any f.blocks x.blocks) (sym is) (turned_as f o)

  module _ (p : Point) (i : Instr) (v : ℕ) (there : instr_at g p ≡ Some i) (calls : is_call_of Intrinsic.CoroFrame i ≡ true) (makes : result_of i ≡ Some v) where
    -- each instruction that makes it is a call of coro.frame
    abbrev OnlyFrames : Instr → Type 0
    OnlyFrames j = result_of j ≡ Some v → is_call_of Intrinsic.CoroFrame j ≡ true

    only_frames : (q at : ℕ) (c : Block) (j : Instr) → slice_get g.blocks q ≡ Some c → slice_get c.instrs at ≡ Some j → OnlyFrames j
    only_frames q at c j got here e =
        let s : Point = record { block = q; at = at } in
        let same : i ≡ j = same_instr k g rules.definitions p s i j v there (ap (λ (x : Option Block). instr_in x at) got ∙ here) makes e in
        ap (is_call_of Intrinsic.CoroFrame) (sym same) ∙ calls

    all_frames : Each (λ (c : Block). Each OnlyFrames c.instrs) g.blocks
    all_frames = each_got (λ (c : Block). Each OnlyFrames c.instrs) g.blocks (λ q c got. each_got OnlyFrames c.instrs (λ at j here. only_frames q at c j got here))

    save_other : (x : ℕ) → OnlyFrames (save_call x) → x ≡ v → ⊥
    save_other x h e = let bad : false ≡ true = h (ap (λ (y : ℕ). Some y) e) in absurd (cc)

    fresh : TurnsBlocks r (λ x. x ≡ v → ⊥) f.blocks g.blocks
    fresh = marked_blocks r (λ x. x ≡ v → ⊥) OnlyFrames save_other f.blocks g.blocks turned all_frames

    -- begin makes another
    to_other : r.to ≡ v → ⊥
    to_other e =
        let s = begin_stands g begin named_now in
        let q : Point = record { block = s.position; at = s.at } in
        let to_begin : r.to ≡ begin = ap (λ (x : Option ℕ). (renaming_to (if_unnamed o f) x).to) named in
        let own : result_of s.instr ≡ Some v = begin_result s.instr s.calls ∙ s.makes ∙ ap (λ (x : ℕ). Some x) (sym to_begin ∙ e) in
        let frame : is_call_of Intrinsic.CoroFrame s.instr ≡ true = only_frames s.position s.at s.block s.instr s.got s.there own in
        no_both s.instr s.calls frame
      where
        no_both : (j : Instr) → is_call_of Intrinsic.CoroBegin j ≡ true → is_call_of Intrinsic.CoroFrame j ≡ true → ⊥
        no_both (Instr.Call result must_tail ty (Callee.Intrinsic Intrinsic.CoroBegin) args) a b = absurd (cc)
        no_both _ a b = absurd (cc)

    here : IsAt g p i
    here = stands_at g p i there

    source : FrameAmong r Any v f.blocks
    source = blocks_back r Any v f.blocks g.blocks turned here.block (got_listed g.blocks p.block here.block here.got) i (got_listed here.block.instrs p.at i here.there) (record { calls = calls; makes = makes })

    flagged : is_renamed r v ≡ true
    flagged =
        frame_renamed f o begin named v source.block source.frame.instr source.among source.frame.listed source.frame.makes
        (below v source.block source.frame.instr source.among source.frame.listed source.frame.makes.makes)

    pub named_unused : first_part (names_value v) (parts_of k g) ≡ None
    named_unused = early.carried r (λ x. x ≡ v → ⊥) f g (breaks_values m (value_kind f) f.result) (names_value v) (unused_over r v to_other flagged m (value_kind f) f.result f g) k fresh values
