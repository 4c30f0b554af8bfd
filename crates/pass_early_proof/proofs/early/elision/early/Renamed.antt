-- Elidable coroutines in which uses of coro.frame become uses of begin's value.
use Rattle.std.proofs.Common.{◌≡◌, ℕ, zero, suc, ◌+◌, Bool, true, false, cond, List, [], ◌∷◌, ◌++◌, length, Some, None, Option, refl, sym, ap, ◌∙◌, subst, ◌↔◌}
use Rattle.std.proofs.lemmas.Option.{slice_get-map}
use Rattle.std.specs.List.{list_all, list_any}
use Rattle.std.specs.Prelude.{count_by, find, flat_map, map, option_and_then, option_map, slice_get, ◌-◌, ◌&&◌, ◌||◌, ◌==◌, if◌then◌else◌}
use Rattle.rule_laws.specs.flow_blocks.Kinds.{kind_at, kind_of_ending, suspended}
use Rattle.rule_laws.specs.flow_blocks.declared.kinds.EdgeKind.{EdgeKind}
use Rattle.rule_laws.specs.ir_calls.Calls.{is_null}
use Rattle.rule_laws.specs.rule_shape.Uses.{phi_operands, uses_of}
use Rattle.rule_laws.proofs.ir_laws.facts.Truth.{equal_numbers, itself}
use Rattle.run_states.proofs.renamed.Modules.{length_same}
use Rattle.pass_early_proof.proofs.early.renaming.Parts.{call_of_same, call_operand_same, local_same, result_same, targets_same}
use Rattle.pass_early_proof.proofs.early.renaming.Slots.{plain_result}
use Rattle.pass_early_proof.specs.early.renaming.Passes.{renamed_block, renamed_coroutine}
use Rattle.pass_early_proof.specs.early.renaming.Regular.{IsPlain, IsRegular}
use Rattle.pass_early_proof.proofs.early.elision.early.Alike.{IsPhiAlike, elidable_same}
use Rattle.rule_laws.proofs.ir_laws.facts.Lists.{count_changed, count_cons, find_changed}
use Rattle.pass_early_proof.proofs.early.elision.early.Mapped.{IsChange, change_alike}
use Rattle.pass_early_proof.proofs.early.elision.early.Named.{any_both, call_made}
use Rattle.pass_early.specs.Early.{renaming_of, renaming_to}
use Rattle.pass_early.specs.Renaming.{is_renamed, renamed, renamed_arg, renamed_incoming, renamed_instr, renamed_phi, renamed_term, renamed_value}
use Rattle.pass_early.specs.declared.renaming.Renaming.{Renaming}
use Rattle.pass_early_proof.proofs.early.source_rules.Makers.{begin_of, renamed_frame}
use Rattle.rule_laws.specs.rule_phis.Operands.{same_operand}
use Rattle.elide_sites.specs.elide_shape.Calls.{deals_by, gives_size, is_size_call, is_size_value, is_the_result}
use Rattle.elide_sites.specs.elide_shape.Edges.{jumps_to, ways_on}
use Rattle.elide_sites.specs.elide_shape.Frames.{all_from, frame_value, frame_values, is_frame, is_frame_call, local_if, returns_frame}
use Rattle.elide_sites.specs.elide_shape.Frees.{is_null_test, not_null_first, sides_of}
use Rattle.elide_sites.specs.elide_shape.Guard.{is_memory_phi}
use Rattle.elide_sites.specs.elide_shape.Phis.{given, gives_same, is_given, same_given, same_value}
use Rattle.elide_sites.specs.elide_shape.declared.calls.Dealing.{Dealing}
use Rattle.elide_sites.specs.Elidable.{IsElidable}
use Rattle.rule_laws.specs.ir_parts.Contents.{arg_operands, ending_operands, instr_operands}
use Rattle.ir_model.specs.Calls.{first_result, result_of_call}
use Rattle.ir_model.specs.Names.{is_local, position_of}
use Rattle.ir_model.specs.declared.instr.Incoming.{Incoming}
use Rattle.ir_model.specs.declared.instr.Instr.{Instr}
use Rattle.ir_model.specs.declared.instr.Phi.{Phi}
use Rattle.ir_model.specs.declared.instr.Terminator.{Terminator}
use Rattle.ir_model.specs.declared.module.Block.{Block}
use Rattle.ir_model.specs.declared.module.Function.{Function}
use Rattle.ir_model.specs.declared.operand.Arg.{Arg}
use Rattle.ir_model.specs.declared.operand.Callee.{Callee}
use Rattle.ir_model.specs.declared.operand.Intrinsic.{Intrinsic}
use Rattle.ir_model.specs.declared.operand.Operand.{Operand}
use Rattle.rule_laws.specs.ir_paths.Windows.{call_operand, instr_at, instr_in, is_call_of}
use Rattle.rule_laws.specs.ir_paths.declared.point.Point.{Point}
use Rattle.rule_laws.specs.run_laws.changed.Changed.{Each, result_of}

module _ (r : Renaming) where
  null_same : (x : Operand) → is_null (renamed r x) ≡ is_null x
  null_same (Operand.Local n) = refl
  null_same (Operand.Global n) = refl
  null_same (Operand.Number z) = refl
  null_same Operand.True = refl
  null_same Operand.False = refl
  null_same Operand.Null = refl
  null_same Operand.None = refl
  null_same Operand.Poison = refl

  deals_same : (d : Dealing) (i : Instr) → deals_by d (renamed_instr r i) ≡ deals_by d i
  deals_same d (Instr.Call result must_tail ty (Callee.Intrinsic k) args) = refl
  deals_same d (Instr.Call result must_tail ty (Callee.Named n) args) = refl
  deals_same d (Instr.Call result must_tail ty (Callee.Allocator a) args) = refl
  deals_same d (Instr.Call result must_tail ty (Callee.Local n) args) = refl
  deals_same d (Instr.Binary name op flags ty a b) = refl
  deals_same d (Instr.Icmp name pred ty a b) = refl
  deals_same d (Instr.Select name x a b) = refl
  deals_same d (Instr.Cast name op nneg arg to) = refl
  deals_same d (Instr.Alloca name ty align) = refl
  deals_same d (Instr.Load name ty p align) = refl
  deals_same d (Instr.Store arg p align) = refl
  deals_same d (Instr.Gep name inbounds ty base indices) = refl

  result_of_same : (j : Intrinsic) (i : Instr) → result_of_call j (renamed_instr r i) ≡ result_of_call j i
  result_of_same j (Instr.Call result must_tail ty (Callee.Intrinsic k) args) = refl
  result_of_same j (Instr.Call result must_tail ty (Callee.Named n) args) = refl
  result_of_same j (Instr.Call result must_tail ty (Callee.Allocator a) args) = refl
  result_of_same j (Instr.Call result must_tail ty (Callee.Local n) args) = refl
  result_of_same j (Instr.Binary name op flags ty a b) = refl
  result_of_same j (Instr.Icmp name pred ty a b) = refl
  result_of_same j (Instr.Select name x a b) = refl
  result_of_same j (Instr.Cast name op nneg arg to) = refl
  result_of_same j (Instr.Alloca name ty align) = refl
  result_of_same j (Instr.Load name ty p align) = refl
  result_of_same j (Instr.Store arg p align) = refl
  result_of_same j (Instr.Gep name inbounds ty base indices) = refl

  args_renamed : (args : List Arg) → arg_operands (map (renamed_arg r) args) ≡ map (renamed r) (arg_operands args)
  args_renamed [] = refl
  args_renamed (a ∷ args) = ap (λ xs. renamed r a.value ∷ xs) (args_renamed args)

  operands_renamed : (i : Instr) → instr_operands (renamed_instr r i) ≡ map (renamed r) (instr_operands i)
  operands_renamed (Instr.Call result must_tail ty (Callee.Intrinsic k) args) = args_renamed args
  operands_renamed (Instr.Call result must_tail ty (Callee.Named n) args) = args_renamed args
  operands_renamed (Instr.Call result must_tail ty (Callee.Allocator a) args) = args_renamed args
  operands_renamed (Instr.Call result must_tail ty (Callee.Local n) args) = ap (λ xs. Operand.Local (renamed_value r n) ∷ xs) (args_renamed args)
  operands_renamed (Instr.Binary name op flags ty a b) = refl
  operands_renamed (Instr.Icmp name pred ty a b) = refl
  operands_renamed (Instr.Select name x a b) = refl
  operands_renamed (Instr.Cast name op nneg arg to) = refl
  operands_renamed (Instr.Alloca name ty align) = refl
  operands_renamed (Instr.Load name ty p align) = refl
  operands_renamed (Instr.Store arg p align) = refl
  operands_renamed (Instr.Gep name inbounds ty base indices) = ap (λ xs. renamed r base ∷ xs) (args_renamed indices)

  phi_renamed : (xs : List Incoming) → map (λ i. i.value) (map (renamed_incoming r) xs) ≡ map (renamed r) (map (λ i. i.value) xs)
  phi_renamed [] = refl
  phi_renamed (x ∷ xs) = ap (λ ys. renamed r x.value ∷ ys) (phi_renamed xs)

-- operands that are the same are both the frame's address, or neither is
frame_of_same : (h : Function) (x y : Operand) → same_operand x y ≡ true → is_frame h x ≡ is_frame h y
frame_of_same h (Operand.Local m) (Operand.Local n) e = ap (λ (k : ℕ). is_frame h (Operand.Local k)) (equal_numbers m n e)
frame_of_same h (Operand.Local m) y e = absurd (cc)
frame_of_same h x (Operand.Local n) e = absurd (cc)
frame_of_same h (Operand.Global m) (Operand.Global n) e = refl
frame_of_same h (Operand.Number m) (Operand.Number n) e = refl
frame_of_same h Operand.True Operand.True e = refl
frame_of_same h Operand.False Operand.False e = refl
frame_of_same h Operand.Null Operand.Null e = refl
frame_of_same h Operand.None Operand.None e = refl
frame_of_same h Operand.Poison Operand.Poison e = refl
frame_of_same h x y e = absurd (cc)

different : (h : Function) (x y : Operand) → (is_frame h x ≡ is_frame h y → ⊥) → same_operand x y ≡ false
different h x y apart = on (same_operand x y) refl
  where
    on : (b : Bool) → same_operand x y ≡ b → b ≡ false
    on true e = absurd (apart (frame_of_same h x y e))
    on false e = refl

module _ (f : Function) (ok : IsRegular f (renaming_of f)) where
  abbrev r : Renaming
  r = renaming_of f

  abbrev g : Function
  g = renamed_coroutine r f

  -- ---- the values that are the frame's address

  value_same : (i : Instr) → frame_value (renamed_instr r i) ≡ frame_value i
  value_same i = λ k. if call_of_same r Intrinsic.CoroBegin i k || call_of_same r Intrinsic.CoroFrame i k then local_if (result_same r i k) else []

  in_instrs : (is : List Instr) → flat_map frame_value (map (renamed_instr r) is) ≡ flat_map frame_value is
  in_instrs [] = refl
  in_instrs (i ∷ is) = λ k. value_same i k ++ in_instrs is k

  in_blocks : (bs : List Block) → all_from frame_value (map (renamed_block r) bs) ≡ all_from frame_value bs
  in_blocks [] = refl
  in_blocks (b ∷ bs) = λ k. in_instrs b.instrs k ++ in_blocks bs k

  or_one : (a b : Bool) → b ≡ true → (a || b) ≡ true
  or_one true b e = refl
  or_one false b e = e

  one_or : (a b : Bool) → a ≡ true → (a || b) ≡ true
  one_or true b e = refl
  one_or false b e = absurd (cc)

  value_there : (v : ℕ) (i : Instr) → is_frame_call i ≡ true → result_of i ≡ Some v → list_any (is_local v) (frame_value i) ≡ true
  value_there v (Instr.Call result must_tail ty callee args) call e =
      (λ k. list_any (is_local v) (if call k then local_if (e k) else [])) ∙ one_or (v == v) false (itself v)
  value_there v (Instr.Binary name op flags ty a b) call e = absurd (cc)
  value_there v (Instr.Icmp name pred ty a b) call e = absurd (cc)
  value_there v (Instr.Select name x a b) call e = absurd (cc)
  value_there v (Instr.Cast name op nneg arg to) call e = absurd (cc)
  value_there v (Instr.Alloca name ty align) call e = absurd (cc)
  value_there v (Instr.Load name ty p align) call e = absurd (cc)
  value_there v (Instr.Store arg p align) call e = absurd (cc)
  value_there v (Instr.Gep name inbounds ty base indices) call e = absurd (cc)

  in_there : {X : Type 0} (t : Operand → Bool) (give : X → List Operand) (xs : List X) (k : ℕ) (x : X) → slice_get xs k ≡ Some x → list_any t (give x) ≡ true → list_any t (flat_map give xs) ≡ true
  in_there t give [] k x e h = absurd (cc)
  in_there t give (y ∷ xs) zero x e h =
      let same : y ≡ x = cc in
      any_both t (give y) (flat_map give xs) ∙ one_or (list_any t (give y)) (list_any t (flat_map give xs)) (ap (λ z. list_any t (give z)) same ∙ h)
  in_there t give (y ∷ xs) (suc k) x e h = any_both t (give y) (flat_map give xs) ∙ or_one (list_any t (give y)) (list_any t (flat_map give xs)) (in_there t give xs k x e h)

  frame_there : (v : ℕ) (p : Point) (i : Instr) → instr_at f p ≡ Some i → is_frame_call i ≡ true → result_of i ≡ Some v → list_any (is_local v) (frame_values f) ≡ true
  frame_there v p i e call result = on (slice_get f.blocks p.block) refl e
    where
      on : (o : Option Block) → slice_get f.blocks p.block ≡ o → instr_in o p.at ≡ Some i → list_any (is_local v) (frame_values f) ≡ true
      on None s h = absurd (cc)
      on (Some b) s h = in_there (is_local v) (λ (c : Block). flat_map frame_value c.instrs) f.blocks p.block b s (in_there (is_local v) frame_value b.instrs p.at i h (value_there v i call result))

  of_frame : (v : ℕ) → is_renamed r v ≡ true → list_any (is_local v) (frame_values f) ≡ true
  of_frame v e = let x = renamed_frame f v e in frame_there v x.point x.instr x.stands (or_one (is_call_of Intrinsic.CoroBegin x.instr) (is_call_of Intrinsic.CoroFrame x.instr) x.is_call) x.result

  of_begin : (v : ℕ) → is_renamed r v ≡ true → list_any (is_local r.to) (frame_values f) ≡ true
  of_begin v e = on (first_result Intrinsic.CoroBegin f) refl
    where
      on : (o : Option ℕ) → first_result Intrinsic.CoroBegin f ≡ o → list_any (is_local r.to) (frame_values f) ≡ true
      on None h = let t : true ≡ false = sym e ∙ ap (λ (o : Option ℕ). is_renamed (renaming_to f o) v) h in absurd (cc)
      on (Some n) h =
          let x = begin_of f n h in
          ap (λ (o : Option ℕ). list_any (is_local (renaming_to f o).to) (frame_values f)) h
          ∙ frame_there n x.point x.instr x.stands (one_or (is_call_of Intrinsic.CoroBegin x.instr) (is_call_of Intrinsic.CoroFrame x.instr) x.is_call) x.result

  frame_same : (x : Operand) → is_frame g (renamed r x) ≡ is_frame f x
  frame_same (Operand.Local v) = ap (list_any (is_local (renamed_value r v))) (in_blocks f.blocks) ∙ on (is_renamed r v) refl
    where
      on : (b : Bool) → is_renamed r v ≡ b → list_any (is_local (if b then r.to else v)) (frame_values f) ≡ list_any (is_local v) (frame_values f)
      on true e = of_begin v e ∙ sym (of_frame v e)
      on false e = refl
  frame_same (Operand.Global n) = refl
  frame_same (Operand.Number z) = refl
  frame_same Operand.True = refl
  frame_same Operand.False = refl
  frame_same Operand.Null = refl
  frame_same Operand.None = refl
  frame_same Operand.Poison = refl

  -- what isn't the frame's address stays
  other_stays : (x : Operand) → is_frame f x ≡ false → renamed r x ≡ x
  other_stays (Operand.Local v) e = on (is_renamed r v) refl
    where
      on : (b : Bool) → is_renamed r v ≡ b → Operand.Local (if b then r.to else v) ≡ Operand.Local v
      on true h = let t : true ≡ false = sym (of_frame v h) ∙ e in absurd (cc)
      on false h = refl
  other_stays (Operand.Global n) e = refl
  other_stays (Operand.Number z) e = refl
  other_stays Operand.True e = refl
  other_stays Operand.False e = refl
  other_stays Operand.Null e = refl
  other_stays Operand.None e = refl
  other_stays Operand.Poison e = refl

  -- operands count as equal where they did
  value_alike : (x y : Operand) → same_value g (renamed r x) (renamed r y) ≡ same_value f x y
  value_alike x y = (λ k. same_operand (renamed r x) (renamed r y) || (frame_same x k && frame_same y k)) ∙ on (is_frame f x) (is_frame f y) refl refl
    where
      always : (b : Bool) → (b || true) ≡ true
      always b = or_one b true refl

      apart : (is_frame f x ≡ is_frame f y → ⊥) → same_operand (renamed r x) (renamed r y) ≡ same_operand x y
      apart h = different g (renamed r x) (renamed r y) (λ e. h (sym (frame_same x) ∙ e ∙ frame_same y)) ∙ sym (different f x y h)

      on : (a b : Bool) → is_frame f x ≡ a → is_frame f y ≡ b → (same_operand (renamed r x) (renamed r y) || (a && b)) ≡ (same_operand x y || (a && b))
      on true true h k = always (same_operand (renamed r x) (renamed r y)) ∙ sym (always (same_operand x y))
      on true false h k = ap (λ (s : Bool). s || false) (apart (λ e. let t : true ≡ false = sym h ∙ e ∙ k in absurd (cc)))
      on false true h k = ap (λ (s : Bool). s || false) (apart (λ e. let t : true ≡ false = sym k ∙ sym e ∙ h in absurd (cc)))
      on false false h k = λ i. same_operand (other_stays x h i) (other_stays y k i) || false

  returns_same : (t : Terminator) → returns_frame g (renamed_term r t) ≡ returns_frame f t
  returns_same (Terminator.Ret None) = refl
  returns_same (Terminator.Ret (Some a)) = frame_same a.value
  returns_same (Terminator.Jump label) = refl
  returns_same (Terminator.Branch x a b) = refl
  returns_same (Terminator.Switch arg default cases) = refl
  returns_same Terminator.Unreachable = refl

  rets_same : (bs : List Block) → list_all (λ b. returns_frame g b.term) (map (renamed_block r) bs) ≡ list_all (λ b. returns_frame f b.term) bs
  rets_same [] = refl
  rets_same (b ∷ bs) = λ k. returns_same b.term k && rets_same bs k

  -- ---- sizes

  no_and : (b : Bool) → (b && false) ≡ true → ⊥
  no_and true e = absurd (cc)
  no_and false e = absurd (cc)

  -- what no call of coro.size makes is no size
  size_result : (v : ℕ) (i : Instr) → gives_size v i ≡ true → (result_of i ≡ Some v) × (is_call_of Intrinsic.CoroBegin i ≡ false) × (is_call_of Intrinsic.CoroFrame i ≡ false)
  size_result v (Instr.Call None must_tail ty callee args) e = absurd (no_and (is_size_call (Instr.Call None must_tail ty callee args)) e)
  size_result v (Instr.Call (Some u) must_tail ty (Callee.Intrinsic Intrinsic.CoroSizeI32) args) e = (ap Some (sym (equal_numbers v u e)), refl, refl)
  size_result v (Instr.Call (Some u) must_tail ty (Callee.Intrinsic Intrinsic.CoroSizeI64) args) e = (ap Some (sym (equal_numbers v u e)), refl, refl)
  size_result v i e = absurd (cc)

  record IsSizeAt (v : ℕ) : Type 0 where
    point : Point
    instr : Instr
    stands : instr_at f point ≡ Some instr
    gives : gives_size v instr ≡ true

  any_there : {X : Type 0} (t : X → Bool) (xs : List X) → list_any t xs ≡ true → (k : ℕ) × ((x : X) × ((slice_get xs k ≡ Some x) × (t x ≡ true)))
  any_there t [] e = absurd (cc)
  any_there t (x ∷ xs) e = on (t x) refl e (any_there t xs)
    where
      on : (b : Bool) → t x ≡ b → (b || list_any t xs) ≡ true → (list_any t xs ≡ true → (k : ℕ) × ((y : _) × ((slice_get xs k ≡ Some y) × (t y ≡ true)))) → (k : ℕ) × ((y : _) × ((slice_get (x ∷ xs) k ≡ Some y) × (t y ≡ true)))
      on true h e again = (0, (x, (refl, h)))
      on false h e again = let z = again e in (suc z.0, (z.1.0, z.1.1))

  size_at : (v : ℕ) → is_size_value f (Operand.Local v) ≡ true → IsSizeAt v
  size_at v e =
      let b = any_there (λ (b : Block). list_any (gives_size v) b.instrs) f.blocks e in
      let i = any_there (gives_size v) b.1.0.instrs b.1.1.1 in
      record { point = record { block = b.0; at = i.0 }; instr = i.1.0; stands = ap (λ (o : Option Block). instr_in o i.0) b.1.1.0 ∙ i.1.1.0; gives = i.1.1.1 }

  not_size : (v : ℕ) → (IsPlain r v → ⊥) → is_size_value f (Operand.Local v) ≡ false
  not_size v never = on (is_size_value f (Operand.Local v)) refl
    where
      on : (b : Bool) → is_size_value f (Operand.Local v) ≡ b → b ≡ false
      on true e =
          let x = size_at v e in
          let made = size_result v x.instr x.gives in
          absurd (never (plain_result r f ok x.point x.instr v x.stands made.0 made.2 made.1))
      on false e = refl

  sized_same : (x : Operand) → is_size_value f (renamed r x) ≡ is_size_value f x
  sized_same (Operand.Local v) = on (is_renamed r v) refl
    where
      on : (b : Bool) → is_renamed r v ≡ b → is_size_value f (Operand.Local (if b then r.to else v)) ≡ is_size_value f (Operand.Local v)
      on true e =
          not_size r.to (λ plain. let t : true ≡ false = sym (itself r.to) ∙ plain.is_other in absurd (cc))
          ∙ sym (not_size v (λ plain. let t : true ≡ false = sym e ∙ plain.stays in absurd (cc)))
      on false e = refl
  sized_same (Operand.Global n) = refl
  sized_same (Operand.Number z) = refl
  sized_same Operand.True = refl
  sized_same Operand.False = refl
  sized_same Operand.Null = refl
  sized_same Operand.None = refl
  sized_same Operand.Poison = refl

  -- ---- terminators

  term_uses_same : (v : ℕ) (t : Terminator) → IsPlain r v → count_by (is_local v) (ending_operands (renamed_term r t)) ≡ count_by (is_local v) (ending_operands t)
  term_uses_same v (Terminator.Jump label) plain = refl
  term_uses_same v (Terminator.Branch x a b) plain = count_changed (is_local v) (is_local v) (renamed r) (local_same r v plain) (x ∷ [])
  term_uses_same v (Terminator.Switch arg default cases) plain =
      let rest = map (λ (k : Rattle.ir_model.specs.declared.instr.Case.Case). k.arg.value) cases in
      count_cons (is_local v) (renamed r arg.value) rest
      ∙ ap (λ (b : Bool). cond b 1 0 + count_by (is_local v) rest) (local_same r v plain arg.value)
      ∙ sym (count_cons (is_local v) arg.value rest)
  term_uses_same v (Terminator.Ret None) plain = refl
  term_uses_same v (Terminator.Ret (Some a)) plain = count_changed (is_local v) (is_local v) (renamed r) (local_same r v plain) (a.value ∷ [])
  term_uses_same v Terminator.Unreachable plain = refl

  ways_same : (v : ℕ) (t : Terminator) → IsPlain r v → ways_on (Some v) (renamed_term r t) ≡ ways_on (Some v) t
  ways_same v (Terminator.Branch x a b) plain = ap (λ (k : Bool). if k then Some (a, b) else None) (local_same r v plain x)
  ways_same v (Terminator.Jump label) plain = refl
  ways_same v (Terminator.Switch arg default cases) plain = refl
  ways_same v (Terminator.Ret a) plain = refl
  ways_same v Terminator.Unreachable plain = refl

  jumps_renamed : (k : ℕ) (t : Terminator) → jumps_to f k (renamed_term r t) ≡ jumps_to f k t
  jumps_renamed k (Terminator.Jump label) = refl
  jumps_renamed k (Terminator.Branch x a b) = refl
  jumps_renamed k (Terminator.Switch arg default cases) = refl
  jumps_renamed k (Terminator.Ret a) = refl
  jumps_renamed k Terminator.Unreachable = refl

  suspended_same : (is : List Instr) → suspended (map (renamed_instr r) is) ≡ suspended is
  suspended_same is =
      ap (λ (k : ℕ). option_and_then (result_of_call Intrinsic.CoroSuspend) (slice_get (map (renamed_instr r) is) (k - 1))) (length_same (renamed_instr r) is)
      ∙ ap (option_and_then (result_of_call Intrinsic.CoroSuspend)) (slice_get-map (renamed_instr r) is (length is - 1))
      ∙ on (slice_get is (length is - 1))
    where
      on : (o : Option Instr) → option_and_then (result_of_call Intrinsic.CoroSuspend) (option_map (renamed_instr r) o) ≡ option_and_then (result_of_call Intrinsic.CoroSuspend) o
      on None = refl
      on (Some i) = result_of_same r Intrinsic.CoroSuspend i

  suspend_result : (i : Instr) (v : ℕ) → result_of_call Intrinsic.CoroSuspend i ≡ Some v → (result_of i ≡ Some v) × (is_call_of Intrinsic.CoroBegin i ≡ false) × (is_call_of Intrinsic.CoroFrame i ≡ false)
  suspend_result (Instr.Call result must_tail ty (Callee.Intrinsic Intrinsic.CoroSuspend) args) v e = (e, refl, refl)
  suspend_result i v e = absurd (cc)

  ending_same : (o : Option ℕ) (t : Terminator) (at : ℕ) → ((v : ℕ) → o ≡ Some v → IsPlain r v) → kind_of_ending o (renamed_term r t) at ≡ kind_of_ending o t at
  ending_same None (Terminator.Switch arg default cases) at plain = refl
  ending_same (Some v) (Terminator.Switch arg default cases) at plain = ap (λ (b : Bool). if b then kind_at cases at else EdgeKind.Ordinary) (local_same r v (plain v refl) arg.value)
  ending_same o (Terminator.Jump label) at plain = refl
  ending_same o (Terminator.Branch x a b) at plain = refl
  ending_same o (Terminator.Ret a) at plain = refl
  ending_same o Terminator.Unreachable at plain = refl

  kinds_same : (k : ℕ) (b : Block) → slice_get f.blocks k ≡ Some b → (at : ℕ) → kind_of_ending (suspended (map (renamed_instr r) b.instrs)) (renamed_term r b.term) at ≡ kind_of_ending (suspended b.instrs) b.term at
  kinds_same k b e at =
      ap (λ (o : Option ℕ). kind_of_ending o (renamed_term r b.term) at) (suspended_same b.instrs)
      ∙ ending_same (suspended b.instrs) b.term at (λ v h. on v (slice_get b.instrs (length b.instrs - 1)) refl h)
    where
      on : (v : ℕ) (o : Option Instr) → slice_get b.instrs (length b.instrs - 1) ≡ o → option_and_then (result_of_call Intrinsic.CoroSuspend) o ≡ Some v → IsPlain r v
      on v None s h = absurd (cc)
      on v (Some i) s h =
          let made = suspend_result i v h in
          plain_result r f ok (record { block = k; at = length b.instrs - 1 }) i v (ap (λ (x : Option Block). instr_in x (length b.instrs - 1)) e ∙ s) made.0 made.2 made.1

  tests_same : (p : Point) (i : Instr) → instr_at f p ≡ Some i → (v : ℕ) (t : Terminator) → IsPlain r v → ((c : ℕ) → IsPlain r c → uses_of g c ≡ uses_of f c) → sides_of g v (Some (renamed_instr r i)) (renamed_term r t) ≡ sides_of f v (Some i) t
  tests_same p (Instr.Icmp c pred ty a b) e v t plain uses =
      let own = plain_result r f ok p (Instr.Icmp c pred ty a b) c e refl refl refl in
      let tested : is_null_test v (renamed r a) (renamed r b) ≡ is_null_test v a b = λ j. (local_same r v plain a j && null_same r b j) || (null_same r a j && local_same r v plain b j) in
      λ j. if tested j && (uses c own j == 1) then not_null_first pred (ways_same c t own j) else None
  tests_same p (Instr.Call result must_tail ty callee args) e v t plain uses = refl
  tests_same p (Instr.Binary name op flags ty a b) e v t plain uses = refl
  tests_same p (Instr.Select name x a b) e v t plain uses = refl
  tests_same p (Instr.Cast name op nneg arg to) e v t plain uses = refl
  tests_same p (Instr.Alloca name ty align) e v t plain uses = refl
  tests_same p (Instr.Load name ty address align) e v t plain uses = refl
  tests_same p (Instr.Store arg address align) e v t plain uses = refl
  tests_same p (Instr.Gep name inbounds ty base indices) e v t plain uses = refl

  -- ---- phis

  module _ (position : (l : ℕ) → position_of g l ≡ position_of f l) where
    given_renamed : (k : ℕ) (p : Phi) → given g k (renamed_phi r p) ≡ option_map (renamed r) (given f k p)
    given_renamed k p =
        ap (option_map (λ i. i.value)) (find_changed (λ (i : Incoming). position_of g i.from == k) (λ (i : Incoming). position_of f i.from == k) (renamed_incoming r) (λ i. ap (λ (n : ℕ). n == k) (position i.from)) p.incoming)
        ∙ on (find (λ (i : Incoming). position_of f i.from == k) p.incoming)
      where
        on : (o : Option Incoming) → option_map (λ i. i.value) (option_map (renamed_incoming r) o) ≡ option_map (renamed r) (option_map (λ i. i.value) o)
        on None = refl
        on (Some i) = refl

    null_given : (o : Option Operand) → is_given is_null (option_map (renamed r) o) ≡ is_given is_null o
    null_given None = refl
    null_given (Some x) = null_same r x

    local_given : (m : ℕ) → IsPlain r m → (o : Option Operand) → is_given (is_local m) (option_map (renamed r) o) ≡ is_given (is_local m) o
    local_given m plain None = refl
    local_given m plain (Some x) = local_same r m plain x

    phi_uses_same : (v : ℕ) (p : Phi) → IsPlain r v → count_by (is_local v) (phi_operands (renamed_phi r p)) ≡ count_by (is_local v) (phi_operands p)
    phi_uses_same v p plain = ap (count_by (is_local v)) (phi_renamed r p.incoming) ∙ count_changed (is_local v) (is_local v) (renamed r) (local_same r v plain) (phi_operands p)

    memory_same : ((v : ℕ) → IsPlain r v → uses_of g v ≡ uses_of f v) → (p : Phi) (a d m : ℕ) → IsPlain r m → is_memory_phi g a d m (renamed_phi r p) ≡ is_memory_phi f a d m p
    memory_same uses p a d m plain =
        (λ j. is_given is_null (given_renamed a p j) && (is_given (is_local m) (given_renamed d p j) && (uses m plain j == phi_uses_same m p plain j)))
        ∙ (λ j. null_given (given f a p) j && (local_given m plain (given f d p) j && (uses_of f m == count_by (is_local m) (phi_operands p))))

    -- operands of a phi count as equal where they did
    gives_alike : (p : Phi) (a d : ℕ) → gives_same g a d (renamed_phi r p) ≡ gives_same f a d p
    gives_alike p a d = (λ j. same_given g (given_renamed a p j) (given_renamed d p j)) ∙ on (given f a p) (given f d p)
      where
        on : (o q : Option Operand) → same_given g (option_map (renamed r) o) (option_map (renamed r) q) ≡ same_given f o q
        on (Some x) (Some y) = value_alike x y
        on None q = refl
        on (Some x) None = refl

  -- ---- the change

  each_phi : ((l : ℕ) → position_of g l ≡ position_of f l) → ((v : ℕ) → IsPlain r v → uses_of g v ≡ uses_of f v) → (ps : List Phi) → Rattle.rule_laws.specs.run_laws.changed.Changed.Each (λ p. IsPlain r p.result) ps → Each (IsPhiAlike f g (λ p. p) (IsPlain r) (renamed_phi r)) ps
  each_phi position uses [] plain = tt
  each_phi position uses (p ∷ ps) plain = (
    record { result = refl; name = plain.0; gives = gives_alike position p; memory = memory_same position uses p },
    each_phi position uses ps plain.1,
  )

  is_change : IsChange f f.names (map (renamed_phi r)) (renamed_phi r) (renamed_instr r) (renamed_term r) (IsPlain r)
  is_change = record {
    phis = λ ps. refl;
    call_of = call_of_same r;
    deals = deals_same r;
    result = λ i e. result_same r i;
    size = λ v i. (λ k. (call_of_same r Intrinsic.CoroSizeI32 i k || call_of_same r Intrinsic.CoroSizeI64 i k) && is_the_result v (result_same r i k));
    operand = λ v k i plain. ap (is_local v) (call_operand_same r i k) ∙ local_same r v plain (call_operand i k);
    instr_uses = λ v i plain. ap (count_by (is_local v)) (operands_renamed r i) ∙ count_changed (is_local v) (is_local v) (renamed r) (local_same r v plain) (instr_operands i);
    phi_uses = λ v p plain. ap (count_by (is_local v)) (phi_renamed r p.incoming) ∙ count_changed (is_local v) (is_local v) (renamed r) (local_same r v plain) (phi_operands p);
    term_uses = term_uses_same;
    sized = λ i. ap (is_size_value f) (call_operand_same r i 0) ∙ sized_same (call_operand i 0);
    rets = rets_same f.blocks;
    ways = ways_same;
    jumps = jumps_renamed;
    targets_stay = targets_same r;
    kinds = kinds_same;
    tests = tests_same;
    made = λ p i v e begin frame h. plain_result r f ok p i v e (call_made i v h) frame begin;
    phis_alike = λ position uses k b e.
        each_phi position uses b.phis
        (subst (λ ps. Rattle.rule_laws.specs.run_laws.changed.Changed.Each (λ q. IsPlain r q.result) ps) (ap Rattle.rule_laws.specs.run_step.Step.phis_of e) (ok.phis k));
  }

  pub renamed_elidable : IsElidable f ↔ IsElidable g
  renamed_elidable = elidable_same f g (λ p. p) (IsPlain r) (renamed_phi r) (change_alike f f.names (map (renamed_phi r)) (renamed_phi r) (renamed_instr r) (renamed_term r) (IsPlain r) is_change)
