-- Addresses of coroutine slots before begin (rule K9), where begin gets a name and where uses are renamed.
use Rattle.std.proofs.Common.{◌≡◌, inl, inr, ℕ, zero, suc, ◌<◌, Bool, true, false, List, [], ◌∷◌, ◌++◌, length, refl, sym, ap, ◌∙◌, subst, arith}
use Rattle.std.specs.List.{Any}
use Rattle.std.specs.Prelude.{Some, None, Option, drop, flat_map, map, option_map, slice_get, slice_index_or, if◌then◌else◌, ◌==◌, ◌||◌}
use Rattle.rule_laws.proofs.ir_laws.facts.Members.{each_behind, each_there}
use Rattle.rule_laws.proofs.ir_laws.facts.Truth.{equal_numbers, itself}
use Rattle.run_states.proofs.renamed.Modules.{length_same}
use Rattle.pass_early_proof.proofs.early.renaming.Parts.{block_same, operand_at_same, points_where_same, position_same}
use Rattle.pass_early_proof.proofs.early.renaming.Slots.{facts_same as renamed_facts, plain_result}
use Rattle.pass_early_proof.specs.early.renaming.Passes.{renamed_block, renamed_coroutine}
use Rattle.pass_early_proof.specs.early.renaming.Regular.{IsPlain, IsRegular}
use Rattle.pass_early.specs.Renaming.{is_renamed, renamed, renamed_arg, renamed_callee, renamed_incoming, renamed_instr, renamed_phi, renamed_term, renamed_value}
use Rattle.pass_early.specs.declared.renaming.Renaming.{Renaming}
use Rattle.pass_early_proof.proofs.early.path_rules.Marked.{slot_back}
use Rattle.rule_laws.proofs.ir_laws.paths.path_rules.Outside.{end_at}
use Rattle.pass_early_proof.proofs.early.path_rules.Outside.{instr_was, without_back}
use Rattle.pass_early_proof.proofs.early.path_rules.RenamedOperands.{args_renamed, map_was, operands_renamed}
use Rattle.pass_early_proof.proofs.early.path_rules.RenamedPromise.{allocas_same}
use Rattle.pass_early_proof.proofs.early.path_rules.SavedEarly.{NothingEarly, any_map}
use Rattle.rule_laws.specs.ir_parts.Contents.{arg_operands, callee_operands, ending_operands}
use Rattle.ir_model.specs.declared.instr.Instr.{Instr}
use Rattle.ir_model.specs.declared.instr.Terminator.{Terminator}
use Rattle.ir_model.specs.declared.module.Block.{Block}
use Rattle.ir_model.specs.declared.module.Function.{Function}
use Rattle.ir_model.specs.declared.operand.Arg.{Arg}
use Rattle.ir_model.specs.declared.operand.Callee.{Callee}
use Rattle.ir_model.specs.declared.operand.Intrinsic.{Intrinsic}
use Rattle.ir_model.specs.declared.operand.Operand.{Operand}
use Rattle.rule_laws.specs.ir_paths.Facts.{facts_of}
use Rattle.rule_laws.specs.ir_paths.Slots.{addresses_of, addresses_within, allocas_in, allocas_of, geps_from, has_name, is_gep, is_memcpy, is_no_use}
use Rattle.rule_laws.specs.ir_paths.Windows.{instr_at, instr_in, is_call_of, operand_at, points_where}
use Rattle.rule_laws.specs.ir_paths.declared.point.Point.{Point}
use Rattle.rule_laws.specs.rule_slots.Early.{IsBeforeBegin, IsMisused, IsTakenEarly, call_uses, end_of, instr_count, memory_uses, other_uses, end_at as ends_at}
use Rattle.ir_model.specs.Names.{position_of}
use Rattle.ir_model.specs.declared.instr.Incoming.{Incoming}
use Rattle.ir_model.specs.declared.instr.Phi.{Phi}
use Rattle.rule_laws.specs.rule_slots.Slots.{IsCoroutineSlot, IsSlotAddress, NamesAddress, NamesPart}
use Rattle.rule_laws.specs.run_laws.changed.Changed.{Each, result_of}

-- ---- names of addresses are neither renamed nor begin's

module _ (r : Renaming) where
  -- what an instruction makes as an address
  abbrev IsPlainAddress : Instr → Type 0
  IsPlainAddress i = (v : ℕ) → result_of i ≡ Some v → is_call_of Intrinsic.CoroFrame i ≡ false → is_call_of Intrinsic.CoroBegin i ≡ false → IsPlain r v

  allocas_plain : (is : List Instr) → Each IsPlainAddress is → Each (IsPlain r) (allocas_in is)
  allocas_plain [] h = tt
  allocas_plain (Instr.Alloca name ty align ∷ is) h = (h.0 name refl refl refl, allocas_plain is h.1)
  allocas_plain (_ ∷ is) h = allocas_plain is h.1

  geps_plain : (is_base : ℕ → Bool) (is : List Instr) → Each IsPlainAddress is → Each (IsPlain r) (geps_from is_base is)
  geps_plain is_base [] h = tt
  geps_plain is_base (Instr.Gep name inbounds ty (Operand.Local v) indices ∷ is) h =
      each_behind (IsPlain r) (if is_base v then name ∷ [] else []) (geps_from is_base is) (on (is_base v)) (geps_plain is_base is h.1)
    where
      on : (b : Bool) → Each (IsPlain r) (if b then name ∷ [] else [])
      on true = (h.0 name refl refl refl, tt)
      on false = tt
  geps_plain is_base (_ ∷ is) h = geps_plain is_base is h.1

  blocks_plain : (t : List Instr → List ℕ) → ((is : List Instr) → Each IsPlainAddress is → Each (IsPlain r) (t is)) → (bs : List Block) → Each (λ b. Each IsPlainAddress b.instrs) bs → Each (IsPlain r) (flat_map (λ b. t b.instrs) bs)
  blocks_plain t h [] plain = tt
  blocks_plain t h (b ∷ bs) plain = each_behind (IsPlain r) (t b.instrs) (flat_map (λ c. t c.instrs) bs) (h b.instrs plain.0) (blocks_plain t h bs plain.1)

  is_plain : (vs : List ℕ) (v : ℕ) → Each (IsPlain r) vs → has_name vs v ≡ true → IsPlain r v
  is_plain [] v h e = absurd (cc)
  is_plain (u ∷ vs) v h e = on (u == v) refl e (is_plain vs v h.1)
    where
      on : (b : Bool) → (u == v) ≡ b → (b || has_name vs v) ≡ true → (has_name vs v ≡ true → IsPlain r v) → IsPlain r v
      on true same k rest = subst (IsPlain r) (equal_numbers u v same) h.0
      on false same k rest = rest k

  not_plain : IsPlain r r.to → ⊥
  not_plain h = let t : true ≡ false = sym (itself r.to) ∙ h.is_other in cc

  -- a renamed base is none of them, nor is begin's value
  base_same : (vs : List ℕ) → Each (IsPlain r) vs → (v : ℕ) → has_name vs (renamed_value r v) ≡ has_name vs v
  base_same vs plain v = on (is_renamed r v) refl
    where
      missing : (u : ℕ) → (IsPlain r u → ⊥) → has_name vs u ≡ false
      missing u h = by (has_name vs u) refl
        where
          by : (b : Bool) → has_name vs u ≡ b → b ≡ false
          by true e = absurd (h (is_plain vs u plain e))
          by false e = refl

      on : (b : Bool) → is_renamed r v ≡ b → has_name vs (if b then r.to else v) ≡ has_name vs v
      on true e = missing r.to not_plain ∙ sym (missing v (λ h. let t : true ≡ false = sym e ∙ h.stays in cc))
      on false e = refl

  geps_same : (vs : List ℕ) → Each (IsPlain r) vs → (is : List Instr) → geps_from (has_name vs) (map (renamed_instr r) is) ≡ geps_from (has_name vs) is
  geps_same vs plain [] = refl
  geps_same vs plain (Instr.Gep name inbounds ty (Operand.Local v) indices ∷ is) = λ k. (if base_same vs plain v k then name ∷ [] else []) ++ geps_same vs plain is k
  geps_same vs plain (Instr.Gep name inbounds ty (Operand.Global v) indices ∷ is) = geps_same vs plain is
  geps_same vs plain (Instr.Gep name inbounds ty (Operand.Number v) indices ∷ is) = geps_same vs plain is
  geps_same vs plain (Instr.Gep name inbounds ty Operand.True indices ∷ is) = geps_same vs plain is
  geps_same vs plain (Instr.Gep name inbounds ty Operand.False indices ∷ is) = geps_same vs plain is
  geps_same vs plain (Instr.Gep name inbounds ty Operand.Null indices ∷ is) = geps_same vs plain is
  geps_same vs plain (Instr.Gep name inbounds ty Operand.None indices ∷ is) = geps_same vs plain is
  geps_same vs plain (Instr.Gep name inbounds ty Operand.Poison indices ∷ is) = geps_same vs plain is
  geps_same vs plain (Instr.Binary result op flags ty a b ∷ is) = geps_same vs plain is
  geps_same vs plain (Instr.Icmp result pred ty a b ∷ is) = geps_same vs plain is
  geps_same vs plain (Instr.Select result x a b ∷ is) = geps_same vs plain is
  geps_same vs plain (Instr.Cast result op nneg arg to ∷ is) = geps_same vs plain is
  geps_same vs plain (Instr.Alloca result ty align ∷ is) = geps_same vs plain is
  geps_same vs plain (Instr.Load result ty p align ∷ is) = geps_same vs plain is
  geps_same vs plain (Instr.Store arg p align ∷ is) = geps_same vs plain is
  geps_same vs plain (Instr.Call result must_tail ty callee args ∷ is) = geps_same vs plain is

  all_geps_same : (vs : List ℕ) → Each (IsPlain r) vs → (bs : List Block) → flat_map (λ b. geps_from (has_name vs) b.instrs) (map (renamed_block r) bs) ≡ flat_map (λ b. geps_from (has_name vs) b.instrs) bs
  all_geps_same vs plain [] = refl
  all_geps_same vs plain (b ∷ bs) = λ k. geps_same vs plain b.instrs k ++ all_geps_same vs plain bs k

  -- ---- operands that are uses

  memcpy_same : (c : Callee) → is_memcpy (renamed_callee r c) ≡ is_memcpy c
  memcpy_same (Callee.Named n) = refl
  memcpy_same (Callee.Allocator a) = refl
  memcpy_same (Callee.Intrinsic i) = refl
  memcpy_same (Callee.Local n) = refl

  no_use_same : (c : Callee) → is_no_use (renamed_callee r c) ≡ is_no_use c
  no_use_same (Callee.Named n) = refl
  no_use_same (Callee.Allocator a) = refl
  no_use_same (Callee.Intrinsic i) = refl
  no_use_same (Callee.Local n) = refl

  callee_same : (c : Callee) (args : List Arg) → callee_operands (renamed_callee r c) ++ arg_operands (map (renamed_arg r) args) ≡ map (renamed r) (callee_operands c ++ arg_operands args)
  callee_same (Callee.Named n) args = args_renamed r args
  callee_same (Callee.Allocator a) args = args_renamed r args
  callee_same (Callee.Intrinsic i) args = args_renamed r args
  callee_same (Callee.Local n) args = ap (λ (xs : List Operand). Operand.Local (renamed_value r n) ∷ xs) (args_renamed r args)

  drop_same : (args : List Arg) → arg_operands (drop 2 (map (renamed_arg r) args)) ≡ map (renamed r) (arg_operands (drop 2 args))
  drop_same [] = refl
  drop_same (a ∷ []) = refl
  drop_same (a ∷ b ∷ args) = args_renamed r args

  call_same_uses : (c : Callee) (args : List Arg) → call_uses (renamed_callee r c) (map (renamed_arg r) args) ≡ map (renamed r) (call_uses c args)
  call_same_uses c args =
      (λ k. if no_use_same c k then [] else if memcpy_same c k then drop_same args k else callee_same c args k)
      ∙ on (is_no_use c) (is_memcpy c)
    where
      on : (a b : Bool) → (if a then [] else if b then map (renamed r) (arg_operands (drop 2 args)) else map (renamed r) (callee_operands c ++ arg_operands args)) ≡ map (renamed r) (if a then [] else if b then arg_operands (drop 2 args) else callee_operands c ++ arg_operands args)
      on true b = refl
      on false true = refl
      on false false = refl

  other_same : (i : Instr) → other_uses (renamed_instr r i) ≡ map (renamed r) (other_uses i)
  other_same (Instr.Load name ty p align) = refl
  other_same (Instr.Store arg p align) = refl
  other_same (Instr.Call result must_tail ty callee args) = call_same_uses callee args
  other_same (Instr.Binary result op flags ty a b) = refl
  other_same (Instr.Icmp result pred ty a b) = refl
  other_same (Instr.Select result x a b) = refl
  other_same (Instr.Cast result op nneg arg to) = refl
  other_same (Instr.Alloca result ty align) = refl
  other_same (Instr.Gep result inbounds ty base indices) = operands_renamed r (Instr.Gep result inbounds ty base indices)

  memory_same : (i : Instr) → memory_uses (renamed_instr r i) ≡ map (renamed r) (memory_uses i)
  memory_same (Instr.Load name ty p align) = refl
  memory_same (Instr.Store arg p align) = refl
  memory_same (Instr.Call result must_tail ty callee args) =
      (λ k. if memcpy_same callee k then operand_at_same r args 0 k ∷ operand_at_same r args 1 k ∷ [] else [])
      ∙ on (is_memcpy callee)
    where
      on : (b : Bool) → (if b then renamed r (operand_at args 0) ∷ renamed r (operand_at args 1) ∷ [] else []) ≡ map (renamed r) (if b then operand_at args 0 ∷ operand_at args 1 ∷ [] else [])
      on true = refl
      on false = refl
  memory_same (Instr.Binary result op flags ty a b) = refl
  memory_same (Instr.Icmp result pred ty a b) = refl
  memory_same (Instr.Select result x a b) = refl
  memory_same (Instr.Cast result op nneg arg to) = refl
  memory_same (Instr.Alloca result ty align) = refl
  memory_same (Instr.Gep result inbounds ty base indices) = refl

-- ---- some element of a mapped list

index_map : {A B : Type 0} (g : A → B) (xs : List A) (k : ℕ) (y : B) → k < length (map g xs) → slice_index_or (map g xs) k y ≡ y → (x : A) × ((k < length xs) × (slice_index_or xs k x ≡ x) × (y ≡ g x))
index_map g [] k y lt e = absurd (omega arith)
index_map g (x ∷ xs) zero y lt e = (x, (omega arith, refl, sym e))
index_map g (x ∷ xs) (suc k) y lt e = let z = index_map g xs k y (omega arith) e in let less = z.1.0 in (z.0, (omega (arith, less), z.1.1, z.1.2))

any_unmap : {A B : Type 0} (P : B → Type 0) (g : A → B) (xs : List A) → Any P (map g xs) → Any (λ x. P (g x)) xs
any_unmap P g xs a = let z = index_map g xs a.0 a.1 a.2 a.3 in (a.0, z.0, z.1.0, z.1.1, subst P z.1.2 a.4)

-- ---- where uses are renamed

module _ (r : Renaming) (f : Function) (ok : IsRegular f r) where
  abbrev g : Function
  g = renamed_coroutine r f

  all_plain : Each (λ b. Each (IsPlainAddress r) b.instrs) f.blocks
  all_plain = each_there (λ b. Each (IsPlainAddress r) b.instrs) f.blocks (λ k b e. each_there (IsPlainAddress r) b.instrs (λ j i d v result frame begin. plain_result r f ok (record { block = k; at = j }) i v (ap (λ (o : Option Block). instr_in o j) e ∙ d) result frame begin))

  alloca_plain : (a : ℕ) → has_name (allocas_of f) a ≡ true → IsPlain r a
  alloca_plain a h = is_plain r (allocas_of f) a (blocks_plain r allocas_in (allocas_plain r) f.blocks all_plain) h

  within_plain : (n a : ℕ) → IsPlain r a → Each (IsPlain r) (addresses_within n f a)
  within_plain zero a h = (h, tt)
  within_plain (suc n) a h = (h, blocks_plain r (geps_from (has_name (addresses_within n f a))) (geps_plain r (has_name (addresses_within n f a))) f.blocks all_plain)

  within_same : (n a : ℕ) → IsPlain r a → addresses_within n g a ≡ addresses_within n f a
  within_same zero a h = refl
  within_same (suc n) a h =
      ap (λ (vs : List ℕ). a ∷ flat_map (λ b. geps_from (has_name vs) b.instrs) (map (renamed_block r) f.blocks)) (within_same n a h)
      ∙ ap (λ (vs : List ℕ). a ∷ vs) (all_geps_same r (addresses_within n f a) (within_plain n a h) f.blocks)

  gep_same : (i : Instr) → is_gep (renamed_instr r i) ≡ is_gep i
  gep_same (Instr.Gep name inbounds ty base indices) = refl
  gep_same (Instr.Call result must_tail ty callee args) = refl
  gep_same (Instr.Binary name op flags ty a b) = refl
  gep_same (Instr.Icmp name pred ty a b) = refl
  gep_same (Instr.Select name x a b) = refl
  gep_same (Instr.Cast name op nneg arg to) = refl
  gep_same (Instr.Alloca name ty align) = refl
  gep_same (Instr.Load name ty q align) = refl
  gep_same (Instr.Store arg q align) = refl

  addresses_same : (a : ℕ) → IsPlain r a → addresses_of g a ≡ addresses_of f a
  addresses_same a h = ap (λ (ps : List Point). addresses_within (length ps) g a) (points_where_same r is_gep is_gep gep_same f) ∙ within_same (length (points_where is_gep f)) a h

  allocas_are : (a : ℕ) → has_name (allocas_of g) a ≡ has_name (allocas_of f) a
  allocas_are a = ap (λ (vs : List ℕ). has_name vs a) (allocas_same r 0 f ok f.blocks)

  ramps_are : (a : ℕ) → has_name (facts_of g).ramp_slots a ≡ has_name (facts_of f).ramp_slots a
  ramps_are a = ap (λ x. has_name x.ramp_slots a) (renamed_facts r f ok)

  slot_home : (v : ℕ) → IsCoroutineSlot g v → IsCoroutineSlot f v
  slot_home v = slot_back f g allocas_are ramps_are (Operand.Local v)

  slot_now : (v : ℕ) → IsCoroutineSlot f v → IsCoroutineSlot g v
  slot_now v = slot_back g f (λ a. sym (allocas_are a)) (λ a. sym (ramps_are a)) (Operand.Local v)

  address_home : (v : ℕ) → IsSlotAddress g v → IsSlotAddress f v
  address_home v h =
      let slot = slot_home h.slot h.is_slot in
      record { slot = h.slot; is_slot = slot; is_address = ap (λ (vs : List ℕ). has_name vs v) (sym (addresses_same h.slot (alloca_plain h.slot slot.0))) ∙ h.is_address }

  address_plain : (v : ℕ) → IsSlotAddress f v → IsPlain r v
  address_plain v h = is_plain r (addresses_of f h.slot) v (within_plain (length (points_where is_gep f)) h.slot (alloca_plain h.slot h.is_slot.0)) h.is_address

  -- an address that a renamed operand names, it named
  local_home : (v : ℕ) → IsSlotAddress g (renamed_value r v) → renamed_value r v ≡ v
  local_home v h = on (is_renamed r v) refl
    where
      on : (b : Bool) → is_renamed r v ≡ b → renamed_value r v ≡ v
      on true e = absurd (not_plain r (subst (IsPlain r) (ap (λ (b : Bool). if b then r.to else v) e) (address_plain (renamed_value r v) (address_home (renamed_value r v) h))))
      on false e = ap (λ (b : Bool). if b then r.to else v) e

  names_home : (x : Operand) → NamesAddress g (renamed r x) → NamesAddress f x
  names_home (Operand.Local v) h = subst (IsSlotAddress f) (local_home v h) (address_home (renamed_value r v) h)
  names_home (Operand.Global n) h = absurd h
  names_home (Operand.Number z) h = absurd h
  names_home Operand.True h = absurd h
  names_home Operand.False h = absurd h
  names_home Operand.Null h = absurd h
  names_home Operand.None h = absurd h
  names_home Operand.Poison h = absurd h

  same_home : (x : Operand) → NamesAddress g x → NamesAddress f x
  same_home (Operand.Local v) h = address_home v h
  same_home _ h = absurd h

  part_home : (x : Operand) → NamesPart g (renamed r x) → NamesPart f x
  part_home (Operand.Local v) h = (subst (IsSlotAddress f) (local_home v h.0) (address_home (renamed_value r v) h.0), (λ s. h.1 (slot_now (renamed_value r v) (subst (IsCoroutineSlot f) (sym (local_home v h.0)) s))))
  part_home (Operand.Global n) h = absurd h
  part_home (Operand.Number z) h = absurd h
  part_home Operand.True h = absurd h
  part_home Operand.False h = absurd h
  part_home Operand.Null h = absurd h
  part_home Operand.None h = absurd h
  part_home Operand.Poison h = absurd h

  misused_home : (i : Instr) → IsMisused g (renamed_instr r i) → IsMisused f i
  misused_home i (inl a) = inl (any_map (λ x. NamesAddress g (renamed r x)) (NamesAddress f) names_home (other_uses i) (any_unmap (NamesAddress g) (renamed r) (other_uses i) (subst (Any (NamesAddress g)) (other_same r i) a)))
  misused_home i (inr a) = inr (any_map (λ x. NamesPart g (renamed r x)) (NamesPart f) part_home (memory_uses i) (any_unmap (NamesPart g) (renamed r) (memory_uses i) (subst (Any (NamesPart g)) (memory_same r i) a)))

  before_home : (p : Point) → IsBeforeBegin g p → IsBeforeBegin f p
  before_home p (inl e) = inl e
  before_home p (inr h) = inr (without_back r f p h)

  pub instrs_renamed : NothingEarly f → (p : Point) (y : Instr) → instr_at g p ≡ Some y → IsBeforeBegin g p → IsMisused g y → ⊥
  instrs_renamed h p y e before misused = let was = instr_was r f p y e in h.instrs p was.0 was.1.0 (before_home p before) (misused_home was.0 (subst (IsMisused g) was.1.1 misused))

  abbrev end_in : ℕ → Option Block → Point
  end_in k o = record { block = k; at = instr_count o }

  end_same_at : (k : ℕ) → ends_at g k ≡ ends_at f k
  end_same_at k = ap (end_in k) (block_same r f k) ∙ on (slice_get f.blocks k)
    where
      on : (o : Option Block) → end_in k (option_map (renamed_block r) o) ≡ end_in k o
      on None = refl
      on (Some b) = λ i. record { block = k; at = length_same (renamed_instr r) b.instrs i }

  taken_home : (i : Incoming) → IsTakenEarly g (renamed_incoming r i) → IsTakenEarly f i
  taken_home i h = (names_home i.value h.0, before_home (end_of f i.from) (subst (IsBeforeBegin g) (ap (ends_at g) (position_same r f i.from) ∙ end_same_at (position_of f i.from)) h.1))

  first_home : (x : Operand) (ys : List Operand) (k : ℕ) (y : Operand) → k < length (renamed r x ∷ ys) → slice_index_or (renamed r x ∷ ys) k y ≡ y → NamesAddress g y → Any (NamesAddress f) (x ∷ ys)
  first_home x ys zero y lt e h = (0, x, omega arith, refl, names_home x (subst (NamesAddress g) (sym e) h))
  first_home x ys (suc k) y lt e h = (suc k, y, omega (arith, lt), e, same_home y h)

  ending_home : (t : Terminator) → Any (NamesAddress g) (ending_operands (renamed_term r t)) → Any (NamesAddress f) (ending_operands t)
  ending_home (Terminator.Jump label) a = let lt = a.2 in absurd (omega (arith, lt))
  ending_home (Terminator.Branch x b c) a = first_home x [] a.0 a.1 a.2 a.3 a.4
  ending_home (Terminator.Switch arg default cases) a = first_home arg.value (map (λ c. c.arg.value) cases) a.0 a.1 a.2 a.3 a.4
  ending_home (Terminator.Ret None) a = let lt = a.2 in absurd (omega (arith, lt))
  ending_home (Terminator.Ret (Some x)) a = first_home x.value [] a.0 a.1 a.2 a.3 a.4
  ending_home Terminator.Unreachable a = let lt = a.2 in absurd (omega (arith, lt))

  pub early_renamed : NothingEarly f → NothingEarly g
  early_renamed h = record {
    phis = λ k j d x e q taken.
        let was = map_was (renamed_block r) f.blocks k d e in
        let b : Block = was.0 in
        let y = map_was (renamed_phi r) b.phis j x (ap (λ (c : Block). slice_get c.phis j) (sym was.1.1) ∙ q) in
        h.phis k j b y.0 was.1.0 y.1.0 (any_map (λ i. IsTakenEarly g (renamed_incoming r i)) (IsTakenEarly f) taken_home y.0.incoming (any_unmap (IsTakenEarly g) (renamed_incoming r) y.0.incoming (subst (λ (z : Phi). Any (IsTakenEarly g) z.incoming) y.1.1 taken)));
    instrs = instrs_renamed h;
    endings = λ k d e before uses.
        let was = map_was (renamed_block r) f.blocks k d e in
        let b : Block = was.0 in
        let same : end_at k d ≡ end_at k b = (λ i. record { block = k; at = (ap (λ (c : Block). length c.instrs) was.1.1 ∙ length_same (renamed_instr r) b.instrs) i }) in
        h.endings k b was.1.0 (before_home (end_at k b) (subst (IsBeforeBegin g) same before)) (ending_home b.term (subst (λ (c : Block). Any (NamesAddress g) (ending_operands c.term)) was.1.1 uses));
  }
