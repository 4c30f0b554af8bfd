-- Windows and ramp slots of a renamed coroutine are those of its own.
use Rattle.std.proofs.Common.{◌≡◌, ℕ, zero, suc, ◌+◌, Bool, true, false, List, [], ◌∷◌, ◌++◌, length, refl, sym, ap, ◌∙◌, subst, arith}
use Rattle.std.specs.List.{cons_option, list_any}
use Rattle.std.specs.Prelude.{IsTrue, Some, None, Option, option_map, option_and_then, option_to_list, filter, filter_map, flat_map, map, not, slice_get, if◌then◌else◌, ◌==◌, ◌&&◌, ◌||◌}
use Rattle.rule_laws.proofs.ir_laws.facts.Lists.{any_same, map_same}
use Rattle.rule_laws.proofs.ir_laws.facts.Members.{each_behind, each_there}
use Rattle.rule_laws.proofs.ir_laws.facts.Truth.{equal_numbers, itself}
use Rattle.run_states.proofs.renamed.Modules.{length_same}
use Rattle.pass_early_proof.proofs.early.renaming.Parts.{block_same, call_of_same, call_operand_same, destroy_same, end_same, entry_same, found_same, instr_same, led_same, local_same, points_where_same, result_same, resume_same}
use Rattle.pass_early_proof.specs.early.renaming.Passes.{renamed_block, renamed_coroutine}
use Rattle.pass_early_proof.specs.early.renaming.Regular.{IsMark, IsPlain, IsRegular}
use Rattle.rule_laws.specs.ir_laws.paths.renamed.Regular.{is_call_at}
use Rattle.rule_laws.specs.ir_laws.facts.renamed.Regular.{passes}
use Rattle.pass_early.specs.Renaming.{is_renamed, renamed, renamed_arg, renamed_callee, renamed_incoming, renamed_instr, renamed_phi, renamed_term, renamed_value}
use Rattle.pass_early.specs.declared.renaming.Renaming.{Renaming}
use Rattle.ir_model.specs.Names.{is_local}
use Rattle.ir_model.specs.declared.instr.Instr.{Instr}
use Rattle.ir_model.specs.declared.instr.Phi.{Phi}
use Rattle.ir_model.specs.declared.instr.Terminator.{Terminator}
use Rattle.ir_model.specs.declared.module.Block.{Block}
use Rattle.ir_model.specs.declared.module.Function.{Function}
use Rattle.ir_model.specs.declared.operand.Arg.{Arg}
use Rattle.ir_model.specs.declared.operand.Callee.{Callee}
use Rattle.ir_model.specs.declared.operand.Intrinsic.{Intrinsic}
use Rattle.ir_model.specs.declared.operand.Operand.{Operand}
use Rattle.rule_laws.specs.ir_paths.Facts.{facts_of}
use Rattle.rule_laws.specs.ir_paths.Paths.{block_points, entry_point, found_from, has_point, same_point}
use Rattle.rule_laws.specs.ir_paths.Slots.{addresses_of, addresses_within, allocas_in, allocas_of, behind_suspends, end_points, exposed_in_block, exposes, geps_from, has_name, have_common, is_escaped, is_gep, is_in_args, is_memcpy, is_no_use, is_ramp_slot, local_of, occurs, occurs_in_phi, occurs_in_term, points_at, points_behind, promise_of, touches, touching_points}
use Rattle.rule_laws.specs.ir_paths.Windows.{call_operand, call_result, destroy_label, end_block, instr_at, instr_in, is_call_of, is_suspend_of, points_from, points_in, points_where, resume_label, saves_of, suspend_of, window_of, windows_of}
use Rattle.rule_laws.specs.ir_paths.declared.point.Point.{Point}
use Rattle.rule_laws.specs.run_step.Step.{has_markers, is_lifetime, is_marker_of}
use Rattle.rule_laws.specs.run_laws.changed.Changed.{Each, result_of}

module _ (r : Renaming) where
  -- a result of an instruction isn't concerned
  abbrev PlainResult : Option ℕ → Type 0
  PlainResult None = Unit {0}
  PlainResult (Some v) = IsPlain r v

  -- ---- occurrences of plain names

  in_args_same : (v : ℕ) → IsPlain r v → (args : List Arg) → is_in_args v (map (renamed_arg r) args) ≡ is_in_args v args
  in_args_same v plain args = any_same (renamed_arg r) (λ a. is_local v a.value) (λ a. is_local v a.value) (λ a. local_same r v plain a.value) args

  callee_same : (v : ℕ) → IsPlain r v → (n : ℕ) → (v == renamed_value r n) ≡ (v == n)
  callee_same v plain n = local_same r v plain (Operand.Local n)

  occurs_same : (v : ℕ) → IsPlain r v → (i : Instr) → occurs v (renamed_instr r i) ≡ occurs v i
  occurs_same v plain (Instr.Binary name op flags ty a b) = λ k. local_same r v plain a k || local_same r v plain b k
  occurs_same v plain (Instr.Icmp name pred ty a b) = λ k. local_same r v plain a k || local_same r v plain b k
  occurs_same v plain (Instr.Select name x a b) = λ k. local_same r v plain x k || local_same r v plain a.value k || local_same r v plain b.value k
  occurs_same v plain (Instr.Cast name op nneg arg to) = local_same r v plain arg.value
  occurs_same v plain (Instr.Alloca name ty align) = refl
  occurs_same v plain (Instr.Load name ty p align) = local_same r v plain p
  occurs_same v plain (Instr.Store arg p align) = λ k. local_same r v plain arg.value k || local_same r v plain p k
  occurs_same v plain (Instr.Gep name inbounds ty base indices) = λ k. local_same r v plain base k || in_args_same v plain indices k
  occurs_same v plain (Instr.Call result must_tail ty (Callee.Local f) args) = λ k. callee_same v plain f k || in_args_same v plain args k
  occurs_same v plain (Instr.Call result must_tail ty (Callee.Named n) args) = in_args_same v plain args
  occurs_same v plain (Instr.Call result must_tail ty (Callee.Allocator a) args) = in_args_same v plain args
  occurs_same v plain (Instr.Call result must_tail ty (Callee.Intrinsic j) args) = in_args_same v plain args

  no_use_same : (c : Callee) → is_no_use (renamed_callee r c) ≡ is_no_use c
  no_use_same (Callee.Named n) = refl
  no_use_same (Callee.Allocator a) = refl
  no_use_same (Callee.Intrinsic i) = refl
  no_use_same (Callee.Local n) = refl

  memcpy_same : (c : Callee) → is_memcpy (renamed_callee r c) ≡ is_memcpy c
  memcpy_same (Callee.Named n) = refl
  memcpy_same (Callee.Allocator a) = refl
  memcpy_same (Callee.Intrinsic i) = refl
  memcpy_same (Callee.Local n) = refl

  exposes_same : (v : ℕ) → IsPlain r v → (i : Instr) → exposes v (renamed_instr r i) ≡ exposes v i
  exposes_same v plain (Instr.Binary name op flags ty a b) = occurs_same v plain (Instr.Binary name op flags ty a b)
  exposes_same v plain (Instr.Icmp name pred ty a b) = occurs_same v plain (Instr.Icmp name pred ty a b)
  exposes_same v plain (Instr.Select name x a b) = occurs_same v plain (Instr.Select name x a b)
  exposes_same v plain (Instr.Cast name op nneg arg to) = local_same r v plain arg.value
  exposes_same v plain (Instr.Alloca name ty align) = refl
  exposes_same v plain (Instr.Load name ty p align) = refl
  exposes_same v plain (Instr.Store arg p align) = local_same r v plain arg.value
  exposes_same v plain (Instr.Gep name inbounds ty base indices) = in_args_same v plain indices
  exposes_same v plain (Instr.Call result must_tail ty callee args) = λ k.
      not (no_use_same callee k) && not (memcpy_same callee k) && occurs_same v plain (Instr.Call result must_tail ty callee args) k

  phi_same : (v : ℕ) → IsPlain r v → (p : Phi) → occurs_in_phi v (renamed_phi r p) ≡ occurs_in_phi v p
  phi_same v plain p = any_same (renamed_incoming r) (λ i. is_local v i.value) (λ i. is_local v i.value) (λ i. local_same r v plain i.value) p.incoming

  term_same : (v : ℕ) → IsPlain r v → (t : Terminator) → occurs_in_term v (renamed_term r t) ≡ occurs_in_term v t
  term_same v plain (Terminator.Jump label) = refl
  term_same v plain (Terminator.Branch x a b) = local_same r v plain x
  term_same v plain (Terminator.Switch arg default cases) = local_same r v plain arg.value
  term_same v plain (Terminator.Ret None) = refl
  term_same v plain (Terminator.Ret (Some arg)) = local_same r v plain arg.value
  term_same v plain Terminator.Unreachable = refl

  exposed_same : (v : ℕ) → IsPlain r v → (b : Block) → exposed_in_block v (renamed_block r b) ≡ exposed_in_block v b
  exposed_same v plain b = λ k.
      any_same (renamed_phi r) (occurs_in_phi v) (occurs_in_phi v) (phi_same v plain) b.phis k
      || any_same (renamed_instr r) (exposes v) (exposes v) (exposes_same v plain) b.instrs k
      || term_same v plain b.term k

  -- ---- lists of plain names

  any_plain : (t u : ℕ → Bool) → ((v : ℕ) → IsPlain r v → t v ≡ u v) → (vs : List ℕ) → Each (IsPlain r) vs → list_any t vs ≡ list_any u vs
  any_plain t u h [] plain = refl
  any_plain t u h (v ∷ vs) plain = λ k. h v plain.0 k || any_plain t u h vs plain.1 k

  name_same : (vs : List ℕ) → Each (IsPlain r) vs → (n : ℕ) → has_name vs (renamed_value r n) ≡ has_name vs n
  name_same vs plain n = any_plain (λ u. u == renamed_value r n) (λ u. u == n) (λ v h. callee_same v h n) vs plain

  -- the instructions of some blocks have plain results but for calls
  abbrev PlainSlot : Instr → Type 0
  PlainSlot (Instr.Alloca name ty align) = IsPlain r name
  PlainSlot (Instr.Gep name inbounds ty base indices) = IsPlain r name
  PlainSlot i = Unit {0}

  geps_plain : (is_base : ℕ → Bool) (is : List Instr) → Each PlainSlot is → Each (IsPlain r) (geps_from is_base is)
  geps_plain is_base [] h = tt
  geps_plain is_base (Instr.Gep name inbounds ty (Operand.Local v) indices ∷ is) h = on (is_base v) (geps_plain is_base is h.1)
    where
      on : (b : Bool) → Each (IsPlain r) (geps_from is_base is) → Each (IsPlain r) ((if b then name ∷ [] else []) ++ geps_from is_base is)
      on true rest = (h.0, rest)
      on false rest = rest
  geps_plain is_base (i ∷ is) h = geps_plain is_base is h.1

  geps_same : (t u : ℕ → Bool) → ((n : ℕ) → t (renamed_value r n) ≡ u n) → (is : List Instr) → geps_from t (map (renamed_instr r) is) ≡ geps_from u is
  geps_same t u h [] = refl
  geps_same t u h (Instr.Gep name inbounds ty (Operand.Local v) indices ∷ is) = λ k. (if h v k then name ∷ [] else []) ++ geps_same t u h is k
  geps_same t u h (Instr.Gep name inbounds ty (Operand.Global n) indices ∷ is) = geps_same t u h is
  geps_same t u h (Instr.Gep name inbounds ty (Operand.Number z) indices ∷ is) = geps_same t u h is
  geps_same t u h (Instr.Gep name inbounds ty Operand.True indices ∷ is) = geps_same t u h is
  geps_same t u h (Instr.Gep name inbounds ty Operand.False indices ∷ is) = geps_same t u h is
  geps_same t u h (Instr.Gep name inbounds ty Operand.Null indices ∷ is) = geps_same t u h is
  geps_same t u h (Instr.Gep name inbounds ty Operand.None indices ∷ is) = geps_same t u h is
  geps_same t u h (Instr.Gep name inbounds ty Operand.Poison indices ∷ is) = geps_same t u h is
  geps_same t u h (Instr.Call result must_tail ty callee args ∷ is) = geps_same t u h is
  geps_same t u h (Instr.Binary name op flags ty a b ∷ is) = geps_same t u h is
  geps_same t u h (Instr.Icmp name pred ty a b ∷ is) = geps_same t u h is
  geps_same t u h (Instr.Select name x a b ∷ is) = geps_same t u h is
  geps_same t u h (Instr.Cast name op nneg arg to ∷ is) = geps_same t u h is
  geps_same t u h (Instr.Alloca name ty align ∷ is) = geps_same t u h is
  geps_same t u h (Instr.Load name ty p align ∷ is) = geps_same t u h is
  geps_same t u h (Instr.Store arg p align ∷ is) = geps_same t u h is

  allocas_same : (is : List Instr) → allocas_in (map (renamed_instr r) is) ≡ allocas_in is
  allocas_same [] = refl
  allocas_same (Instr.Alloca name ty align ∷ is) = ap (λ ns. name ∷ ns) (allocas_same is)
  allocas_same (Instr.Gep name inbounds ty base indices ∷ is) = allocas_same is
  allocas_same (Instr.Call result must_tail ty callee args ∷ is) = allocas_same is
  allocas_same (Instr.Binary name op flags ty a b ∷ is) = allocas_same is
  allocas_same (Instr.Icmp name pred ty a b ∷ is) = allocas_same is
  allocas_same (Instr.Select name x a b ∷ is) = allocas_same is
  allocas_same (Instr.Cast name op nneg arg to ∷ is) = allocas_same is
  allocas_same (Instr.Load name ty p align ∷ is) = allocas_same is
  allocas_same (Instr.Store arg p align ∷ is) = allocas_same is

  allocas_plain : (is : List Instr) → Each PlainSlot is → Each (IsPlain r) (allocas_in is)
  allocas_plain [] h = tt
  allocas_plain (Instr.Alloca name ty align ∷ is) h = (h.0, allocas_plain is h.1)
  allocas_plain (Instr.Gep name inbounds ty base indices ∷ is) h = allocas_plain is h.1
  allocas_plain (Instr.Call result must_tail ty callee args ∷ is) h = allocas_plain is h.1
  allocas_plain (Instr.Binary name op flags ty a b ∷ is) h = allocas_plain is h.1
  allocas_plain (Instr.Icmp name pred ty a b ∷ is) h = allocas_plain is h.1
  allocas_plain (Instr.Select name x a b ∷ is) h = allocas_plain is h.1
  allocas_plain (Instr.Cast name op nneg arg to ∷ is) h = allocas_plain is h.1
  allocas_plain (Instr.Load name ty p align ∷ is) h = allocas_plain is h.1
  allocas_plain (Instr.Store arg p align ∷ is) h = allocas_plain is h.1

  blocks_same : (t u : List Instr → List ℕ) → ((is : List Instr) → t (map (renamed_instr r) is) ≡ u is) → (bs : List Block) → flat_map (λ b. t b.instrs) (map (renamed_block r) bs) ≡ flat_map (λ b. u b.instrs) bs
  blocks_same t u h [] = refl
  blocks_same t u h (b ∷ bs) = λ k. h b.instrs k ++ blocks_same t u h bs k

  blocks_plain : (t : List Instr → List ℕ) → ((is : List Instr) → Each PlainSlot is → Each (IsPlain r) (t is)) → (bs : List Block) → Each (λ b. Each PlainSlot b.instrs) bs → Each (IsPlain r) (flat_map (λ b. t b.instrs) bs)
  blocks_plain t h [] plain = tt
  blocks_plain t h (b ∷ bs) plain = each_behind (IsPlain r) (t b.instrs) (flat_map (λ c. t c.instrs) bs) (h b.instrs plain.0) (blocks_plain t h bs plain.1)

module _ (r : Renaming) (f : Function) (ok : IsRegular f r) where
  abbrev g : Function
  g = renamed_coroutine r f

  -- ---- names

  -- the result of what is no call of coro.frame or coro.begin
  pub plain_result : (p : Point) (i : Instr) (v : ℕ) → instr_at f p ≡ Some i → result_of i ≡ Some v → is_call_of Intrinsic.CoroFrame i ≡ false → is_call_of Intrinsic.CoroBegin i ≡ false → IsPlain r v
  plain_result p i v e h frame begin = record { stays = stays (is_renamed r v) refl; is_other = other (v == r.to) refl }
    where
      stays : (b : Bool) → is_renamed r v ≡ b → b ≡ false
      stays true k = let t : true ≡ false = sym (ok.frame_calls p i v e h k) ∙ frame in absurd (cc)
      stays false k = refl

      other : (b : Bool) → (v == r.to) ≡ b → b ≡ false
      other true k = let t : true ≡ false = sym (ok.begin_calls p i e (h ∙ ap Some (equal_numbers v r.to k))) ∙ begin in absurd (cc)
      other false k = refl

  slot_plain : (p : Point) (i : Instr) → instr_at f p ≡ Some i → PlainSlot r i
  slot_plain p (Instr.Alloca name ty align) e = plain_result p (Instr.Alloca name ty align) name e refl refl refl
  slot_plain p (Instr.Gep name inbounds ty base indices) e = plain_result p (Instr.Gep name inbounds ty base indices) name e refl refl refl
  slot_plain p (Instr.Call result must_tail ty callee args) e = tt
  slot_plain p (Instr.Binary name op flags ty a b) e = tt
  slot_plain p (Instr.Icmp name pred ty a b) e = tt
  slot_plain p (Instr.Select name x a b) e = tt
  slot_plain p (Instr.Cast name op nneg arg to) e = tt
  slot_plain p (Instr.Load name ty q align) e = tt
  slot_plain p (Instr.Store arg q align) e = tt

  -- what holds of the instruction at each point holds of those of each block
  in_blocks : (P : Instr → Type 0) → ((p : Point) (i : Instr) → instr_at f p ≡ Some i → P i) → Each (λ b. Each P b.instrs) f.blocks
  in_blocks P h = each_there (λ (b : Block). Each P b.instrs) f.blocks (λ n b e. each_there P b.instrs (λ k i d. h (record { block = n; at = k }) i (ap (λ (o : Option Block). instr_in o k) e ∙ d)))

  slots_plain : Each (λ b. Each (PlainSlot r) b.instrs) f.blocks
  slots_plain = in_blocks (PlainSlot r) slot_plain

  addresses_plain : (n alloca : ℕ) → IsPlain r alloca → Each (IsPlain r) (addresses_within n f alloca)
  addresses_plain zero alloca plain = (plain, tt)
  addresses_plain (suc n) alloca plain = (plain, blocks_plain r (geps_from (has_name (addresses_within n f alloca))) (geps_plain r (has_name (addresses_within n f alloca))) f.blocks slots_plain)

  addresses_within_same : (n alloca : ℕ) → IsPlain r alloca → addresses_within n g alloca ≡ addresses_within n f alloca
  addresses_within_same zero alloca plain = refl
  addresses_within_same (suc n) alloca plain =
      ap (λ (vs : List ℕ). alloca ∷ vs) (blocks_same r (geps_from (has_name (addresses_within n g alloca))) (geps_from (has_name (addresses_within n f alloca)))
      (geps_same r (has_name (addresses_within n g alloca)) (has_name (addresses_within n f alloca)) (λ v. ap (λ (vs : List ℕ). has_name vs (renamed_value r v)) (addresses_within_same n alloca plain) ∙ name_same r (addresses_within n f alloca) (addresses_plain n alloca plain) v)) f.blocks)

  gep_same : (i : Instr) → is_gep (renamed_instr r i) ≡ is_gep i
  gep_same (Instr.Alloca name ty align) = refl
  gep_same (Instr.Gep name inbounds ty base indices) = refl
  gep_same (Instr.Call result must_tail ty callee args) = refl
  gep_same (Instr.Binary name op flags ty a b) = refl
  gep_same (Instr.Icmp name pred ty a b) = refl
  gep_same (Instr.Select name x a b) = refl
  gep_same (Instr.Cast name op nneg arg to) = refl
  gep_same (Instr.Load name ty q align) = refl
  gep_same (Instr.Store arg q align) = refl

  addresses_same : (alloca : ℕ) → IsPlain r alloca → addresses_of g alloca ≡ addresses_of f alloca
  addresses_same alloca plain =
      ap (λ (ps : List Point). addresses_within (length ps) g alloca) (points_where_same r is_gep is_gep gep_same f)
      ∙ addresses_within_same (length (points_where is_gep f)) alloca plain

  of_addresses_plain : (alloca : ℕ) → IsPlain r alloca → Each (IsPlain r) (addresses_of f alloca)
  of_addresses_plain alloca plain = addresses_plain (length (points_where is_gep f)) alloca plain

  -- ---- the classes of slots

  promise_same_in : (o : Option ℕ) → promise_of f ≡ o → option_map (renamed_value r) o ≡ o
  promise_same_in None e = refl
  promise_same_in (Some v) e = ap (λ (b : Bool). Some (if b then r.to else v)) (ok.promise v e)

  local_renamed : (x : Operand) → local_of (renamed r x) ≡ option_map (renamed_value r) (local_of x)
  local_renamed (Operand.Local n) = refl
  local_renamed (Operand.Global n) = refl
  local_renamed (Operand.Number z) = refl
  local_renamed Operand.True = refl
  local_renamed Operand.False = refl
  local_renamed Operand.Null = refl
  local_renamed Operand.None = refl
  local_renamed Operand.Poison = refl

  abbrev named_in : Option Instr → Option ℕ
  named_in o = option_and_then (λ i. local_of (call_operand i 1)) o

  named_same : (o : Option Instr) → named_in (option_map (renamed_instr r) o) ≡ option_map (renamed_value r) (named_in o)
  named_same None = refl
  named_same (Some i) = ap local_of (call_operand_same r i 1) ∙ local_renamed (call_operand i 1)

  instr_of_same : (o : Option Point) → option_and_then (instr_at g) o ≡ option_map (renamed_instr r) (option_and_then (instr_at f) o)
  instr_of_same None = refl
  instr_of_same (Some p) = instr_same r f p

  pub promise_same : promise_of g ≡ promise_of f
  promise_same =
      ap (λ (ps : List Point). named_in (option_and_then (instr_at g) (slice_get ps 0))) (points_where_same r (is_call_of Intrinsic.CoroId) (is_call_of Intrinsic.CoroId) (call_of_same r Intrinsic.CoroId) f)
      ∙ ap named_in (instr_of_same (slice_get (points_where (is_call_of Intrinsic.CoroId) f) 0))
      ∙ named_same (option_and_then (instr_at f) (slice_get (points_where (is_call_of Intrinsic.CoroId) f) 0))
      ∙ promise_same_in (promise_of f) refl

  escaped_same : (alloca : ℕ) → IsPlain r alloca → is_escaped g alloca ≡ is_escaped f alloca
  escaped_same alloca plain =
      ap (λ (vs : List ℕ). list_any (λ v. list_any (exposed_in_block v) g.blocks) vs) (addresses_same alloca plain)
      ∙ any_plain r (λ v. list_any (exposed_in_block v) g.blocks) (λ v. list_any (exposed_in_block v) f.blocks) (λ v h. any_same (renamed_block r) (exposed_in_block v) (exposed_in_block v) (exposed_same r v h) f.blocks) (addresses_of f alloca) (of_addresses_plain alloca plain)

  touches_same : (vs : List ℕ) → Each (IsPlain r) vs → (i : Instr) → touches vs (renamed_instr r i) ≡ touches vs i
  touches_same vs plain i = λ k.
      any_plain r (λ v. occurs v (renamed_instr r i)) (λ v. occurs v i) (λ v h. occurs_same r v h i) vs plain k
      && not (call_of_same r Intrinsic.CoroId i k)

  touching_same : (alloca : ℕ) → IsPlain r alloca → touching_points g alloca ≡ touching_points f alloca
  touching_same alloca plain =
      ap (λ (vs : List ℕ). points_where (touches vs) g) (addresses_same alloca plain)
      ∙ points_where_same r (touches (addresses_of f alloca)) (touches (addresses_of f alloca)) (touches_same (addresses_of f alloca) (of_addresses_plain alloca plain)) f

  points_at_same : (n : ℕ) (o : Option Block) → points_at n (option_map (renamed_block r) o) ≡ points_at n o
  points_at_same n None = refl
  points_at_same n (Some b) = ap (block_points n) (length_same (renamed_instr r) b.instrs)

  end_points_same : end_points g ≡ end_points f
  end_points_same =
      ap (λ (n : ℕ). points_at n (slice_get g.blocks n)) (end_same r f)
      ∙ ap (points_at (end_block f)) (block_same r f (end_block f))
      ∙ points_at_same (end_block f) (slice_get f.blocks (end_block f))

  edges_behind : (ss : List Point) → flat_map (λ s. entry_point g (resume_label g s) ∷ entry_point g (destroy_label g s) ∷ []) ss ≡ flat_map (λ s. entry_point f (resume_label f s) ∷ entry_point f (destroy_label f s) ∷ []) ss
  edges_behind [] = refl
  edges_behind (s ∷ ss) =
      let first : entry_point g (resume_label g s) ≡ entry_point f (resume_label f s) = ap (entry_point g) (resume_same r f s) ∙ entry_same r f (resume_label f s) in
      let second : entry_point g (destroy_label g s) ≡ entry_point f (destroy_label f s) = ap (entry_point g) (destroy_same r f s) ∙ entry_same r f (destroy_label f s) in
      λ k. first k ∷ second k ∷ edges_behind ss k

  behind_same : points_behind g ≡ points_behind f
  behind_same =
      let starts : behind_suspends g ≡ behind_suspends f =
      ap (flat_map (λ s. entry_point g (resume_label g s) ∷ entry_point g (destroy_label g s) ∷ [])) (points_where_same r (is_call_of Intrinsic.CoroSuspend) (is_call_of Intrinsic.CoroSuspend) (call_of_same r Intrinsic.CoroSuspend) f)
      ∙ edges_behind (points_where (is_call_of Intrinsic.CoroSuspend) f) in
      (λ k. filter (λ p. not (has_point (end_points_same k) p)) (found_from g (end_points_same k) (starts k)))
      ∙ ap (filter (λ p. not (has_point (end_points f) p))) (found_same r f (end_points f) (behind_suspends f))

  ramp_same : (alloca : ℕ) → IsPlain r alloca → is_ramp_slot g alloca ≡ is_ramp_slot f alloca
  ramp_same alloca plain = λ k.
      not (has_name (option_to_list (promise_same k)) alloca) && not (escaped_same alloca plain k) && not (have_common (behind_same k) (touching_same alloca plain k))

  filter_plain : (t u : ℕ → Bool) → ((v : ℕ) → IsPlain r v → t v ≡ u v) → (vs : List ℕ) → Each (IsPlain r) vs → filter t vs ≡ filter u vs
  filter_plain t u h [] plain = refl
  filter_plain t u h (v ∷ vs) plain = λ k. if h v plain.0 k then v ∷ filter_plain t u h vs plain.1 k else filter_plain t u h vs plain.1 k

  pub ramp_slots_same : filter (is_ramp_slot g) (allocas_of g) ≡ filter (is_ramp_slot f) (allocas_of f)
  ramp_slots_same =
      ap (filter (is_ramp_slot g)) (blocks_same r allocas_in allocas_in (allocas_same r) f.blocks)
      ∙ filter_plain (is_ramp_slot g) (is_ramp_slot f) ramp_same (allocas_of f) (blocks_plain r allocas_in (allocas_plain r) f.blocks slots_plain)

  -- ---- markers

  marked_args : (v : ℕ) (args : List Arg) → ((n : ℕ) → IsTrue (is_in_args n args) → is_renamed r n ≡ false) → list_any (λ a. is_local v a.value) (map (renamed_arg r) args) ≡ list_any (λ a. is_local v a.value) args
  marked_args v [] h = refl
  marked_args v (a ∷ args) h = λ k. first a.value (λ n e. h n (left n e)) k || marked_args v args (λ n e. h n (right n e)) k
    where
      left : (n : ℕ) → IsTrue (is_local n a.value) → IsTrue (is_in_args n (a ∷ args))
      left n e = on (is_local n a.value) e
        where
          on : (b : Bool) → IsTrue b → IsTrue (b || is_in_args n args)
          on true e = refl
          on false e = absurd (cc)

      right : (n : ℕ) → IsTrue (is_in_args n args) → IsTrue (is_in_args n (a ∷ args))
      right n e = on (is_local n a.value)
        where
          on : (b : Bool) → IsTrue (b || is_in_args n args)
          on true = refl
          on false = e

      first : (x : Operand) → ((n : ℕ) → IsTrue (is_local n x) → is_renamed r n ≡ false) → is_local v (renamed r x) ≡ is_local v x
      first (Operand.Local n) k = ap (λ (b : Bool). v == (if b then r.to else n)) (k n (itself n))
      first (Operand.Global n) k = refl
      first (Operand.Number z) k = refl
      first Operand.True k = refl
      first Operand.False k = refl
      first Operand.Null k = refl
      first Operand.None k = refl
      first Operand.Poison k = refl

  marker_call : (v : ℕ) (callee : Callee) (args : List Arg) (b : Bool) → is_lifetime callee ≡ b → (IsTrue (is_lifetime callee) → (n : ℕ) → IsTrue (is_in_args n args) → is_renamed r n ≡ false) → (b && list_any (λ a. is_local v a.value) (map (renamed_arg r) args)) ≡ (b && list_any (λ a. is_local v a.value) args)
  marker_call v callee args true e h = marked_args v args (h e)
  marker_call v callee args false e h = refl

  lifetime_same : (c : Callee) → is_lifetime (renamed_callee r c) ≡ is_lifetime c
  lifetime_same (Callee.Named n) = refl
  lifetime_same (Callee.Allocator a) = refl
  lifetime_same (Callee.Intrinsic i) = refl
  lifetime_same (Callee.Local n) = refl

  marker_same : (v : ℕ) (i : Instr) → IsMark r i → is_marker_of v (renamed_instr r i) ≡ is_marker_of v i
  marker_same v (Instr.Call result must_tail ty callee args) h =
      ap (λ (b : Bool). b && list_any (λ a. is_local v a.value) (map (renamed_arg r) args)) (lifetime_same callee) ∙ marker_call v callee args (is_lifetime callee) refl h
  marker_same v (Instr.Alloca name ty align) h = refl
  marker_same v (Instr.Gep name inbounds ty base indices) h = refl
  marker_same v (Instr.Binary name op flags ty a b) h = refl
  marker_same v (Instr.Icmp name pred ty a b) h = refl
  marker_same v (Instr.Select name x a b) h = refl
  marker_same v (Instr.Cast name op nneg arg to) h = refl
  marker_same v (Instr.Load name ty q align) h = refl
  marker_same v (Instr.Store arg q align) h = refl

  pub markers_same : (v : ℕ) → has_markers g v ≡ has_markers f v
  markers_same v = on f.blocks (in_blocks (IsMark r) ok.marks)
    where
      one : (is : List Instr) → Each (IsMark r) is → list_any (is_marker_of v) (map (renamed_instr r) is) ≡ list_any (is_marker_of v) is
      one [] h = refl
      one (i ∷ is) h = λ k. marker_same v i h.0 k || one is h.1 k

      on : (bs : List Block) → Each (λ b. Each (IsMark r) b.instrs) bs → list_any (λ b. list_any (is_marker_of v) b.instrs) (map (renamed_block r) bs) ≡ list_any (λ b. list_any (is_marker_of v) b.instrs) bs
      on [] h = refl
      on (b ∷ bs) h = λ k. one b.instrs h.0 k || on bs h.1 k

  -- ---- windows

  suspend_test : (o : Option ℕ) → PlainResult r o → (i : Instr) → is_suspend_of o (renamed_instr r i) ≡ is_suspend_of o i
  suspend_test None h i = refl
  suspend_test (Some v) h i = λ k. call_of_same r Intrinsic.CoroSuspend i k && (ap (is_local v) (call_operand_same r i 0) ∙ local_same r v h (call_operand i 0)) k

  abbrev token_of : Function → Point → Option ℕ
  token_of h p = option_and_then call_result (instr_at h p)

  token_same : (p : Point) → token_of g p ≡ token_of f p
  token_same p = ap (λ (o : Option Instr). option_and_then call_result o) (instr_same r f p) ∙ on (instr_at f p)
    where
      on : (o : Option Instr) → option_and_then call_result (option_map (renamed_instr r) o) ≡ option_and_then call_result o
      on None = refl
      on (Some i) = result_same r i

  -- a save's token isn't concerned
  token_plain : (p : Point) (o : Option Instr) → instr_at f p ≡ o → IsTrue (passes (is_call_of Intrinsic.CoroSave) o) → PlainResult r (option_and_then call_result o)
  token_plain p None e h = absurd (cc)
  token_plain p (Some (Instr.Call None must_tail ty callee args)) e h = tt
  token_plain p (Some (Instr.Call (Some v) must_tail ty (Callee.Intrinsic Intrinsic.CoroSave) args)) e h = plain_result p (Instr.Call (Some v) must_tail ty (Callee.Intrinsic Intrinsic.CoroSave) args) v e refl refl refl
  token_plain p (Some _) e h = absurd (cc)

  pub suspend_same : (p : Point) → IsTrue (is_call_at f Intrinsic.CoroSave p) → suspend_of g p ≡ suspend_of f p
  suspend_same p h =
      ap (λ (o : Option ℕ). slice_get (points_where (is_suspend_of o) g) 0) (token_same p)
      ∙ ap (λ (ps : List Point). slice_get ps 0) (points_where_same r (is_suspend_of (token_of f p)) (is_suspend_of (token_of f p)) (suspend_test (token_of f p) (token_plain p (instr_at f p) refl h)) f)

  -- what holds of each point at which a test passes
  points_hold : (P : Point → Type 0) (t : Instr → Bool) (block at : ℕ) (is : List Instr) → ((n : ℕ) (i : Instr) → slice_get is n ≡ Some i → IsTrue (t i) → P (record { block = block; at = at + n })) → Each P (points_from t block at is)
  points_hold P t block at [] h = tt
  points_hold P t block at (i ∷ is) h =
      on (t i) refl (points_hold P t block (suc at) is (λ n j e k. let same : suc at + n ≡ at + suc n = omega arith in subst (λ (x : ℕ). P (record { block = block; at = x })) (sym same) (h (suc n) j e k)))
    where
      on : (b : Bool) → t i ≡ b → Each P (points_from t block (suc at) is) → Each P (if b then record { block = block; at = at } ∷ points_from t block (suc at) is else points_from t block (suc at) is)
      on true e rest = (let same : at + 0 ≡ at = omega arith in subst (λ (x : ℕ). P (record { block = block; at = x })) same (h 0 i refl e), rest)
      on false e rest = rest

  in_points : (P : Point → Type 0) (t : Instr → Bool) (block : ℕ) (bs : List Block) → ((n at : ℕ) (b : Block) (i : Instr) → slice_get bs n ≡ Some b → slice_get b.instrs at ≡ Some i → IsTrue (t i) → P (record { block = block + n; at = at })) → Each P (points_in t block bs)
  in_points P t block [] h = tt
  in_points P t block (b ∷ bs) h =
      each_behind P (points_from t block 0 b.instrs) (points_in t (suc block) bs)
      (points_hold P t block 0 b.instrs (λ n i e k. let same : block + 0 ≡ block = omega arith in let there : 0 + n ≡ n = omega arith in subst (λ (x : ℕ). P (record { block = block; at = x })) (sym there) (subst (λ (x : ℕ). P (record { block = x; at = n })) same (h 0 n b i refl e k))))
      (in_points P t (suc block) bs (λ n at c i e d k. let same : suc block + n ≡ block + suc n = omega arith in subst (λ (x : ℕ). P (record { block = x; at = at })) (sym same) (h (suc n) at c i e d k)))

  saves_hold : Each (λ p. IsTrue (is_call_at f Intrinsic.CoroSave p)) (points_where (is_call_of Intrinsic.CoroSave) f)
  saves_hold = in_points (λ p. IsTrue (is_call_at f Intrinsic.CoroSave p)) (is_call_of Intrinsic.CoroSave) 0 f.blocks (λ n at b i e d k.
      let same : 0 + n ≡ n = omega arith in
      subst (λ (x : ℕ). IsTrue (is_call_at f Intrinsic.CoroSave (record { block = x; at = at }))) (sym same)
      (subst (λ (o : Option Instr). IsTrue (passes (is_call_of Intrinsic.CoroSave) o)) (sym (ap (λ (o : Option Block). instr_in o at) e ∙ d)) k))

  abbrev pair_with : Point → Option Point → Option (Point × Point)
  pair_with save o = option_map (λ suspend. (save, suspend)) o

  abbrev pairs_of : Function → List Point → List (Point × Point)
  pairs_of k ps = filter_map (λ save. pair_with save (suspend_of k save)) ps

  pairs_same : (ps : List Point) → Each (λ p. IsTrue (is_call_at f Intrinsic.CoroSave p)) ps → pairs_of g ps ≡ pairs_of f ps
  pairs_same [] h = refl
  pairs_same (p ∷ ps) h = λ k. cons_option (pair_with p (suspend_same p h.0 k)) (pairs_same ps h.1 k)

  saves_same : saves_of g ≡ saves_of f
  saves_same =
      ap (pairs_of g) (points_where_same r (is_call_of Intrinsic.CoroSave) (is_call_of Intrinsic.CoroSave) (call_of_same r Intrinsic.CoroSave) f)
      ∙ pairs_same (points_where (is_call_of Intrinsic.CoroSave) f) saves_hold

  window_same : (save suspend : Point) → window_of g save suspend ≡ window_of f save suspend
  window_same save suspend = λ k. record {
    save = save;
    suspend = suspend;
    inside = filter (λ p. not (same_point p save) && not (same_point p suspend) && has_point (led_same r f (save ∷ suspend ∷ []) p k) suspend) (led_same r f (save ∷ suspend ∷ []) save k);
  }

  pub windows_same : windows_of g ≡ windows_of f
  windows_same = ap (map (λ (save, suspend). window_of g save suspend)) saves_same ∙ map_same (λ (save, suspend). window_of g save suspend) (λ (save, suspend). window_of f save suspend) (λ x. window_same x.0 x.1) (saves_of f)

  pub facts_same : facts_of g ≡ facts_of f
  facts_same = λ k. record { windows = windows_same k; ramp_slots = ramp_slots_same k }
