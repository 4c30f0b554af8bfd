-- Addresses, uses and escaped slots of a renamed coroutine are those of its own.
use Rattle.std.proofs.Common.{◌≡◌, ℕ, zero, suc, Bool, true, false, List, [], ◌∷◌, ◌++◌, length, refl, ap, ◌∙◌}
use Rattle.std.specs.List.{list_any}
use Rattle.std.specs.Prelude.{Some, None, Option, option_map, flat_map, map, not, slice_get, if◌then◌else◌, ◌==◌, ◌&&◌, ◌||◌}
use Rattle.rule_laws.proofs.ir_laws.facts.Lists.{any_same}
use Rattle.rule_laws.proofs.ir_laws.facts.Members.{each_behind, each_there}
use Rattle.run_states.proofs.renamed.Modules.{length_same}
use Rattle.pass_early_proof.proofs.early.renaming.Parts.{block_same, end_same, local_same, points_where_same}
use Rattle.pass_early_proof.specs.early.renaming.Passes.{renamed_block, renamed_coroutine}
use Rattle.pass_early_proof.specs.early.renaming.Regular.{IsPlain, IsRegular}
use Rattle.pass_early.specs.Renaming.{renamed_arg, renamed_callee, renamed_incoming, renamed_instr, renamed_phi, renamed_term, renamed_value}
use Rattle.pass_early.specs.declared.renaming.Renaming.{Renaming}
use Rattle.ir_model.specs.Names.{is_local}
use Rattle.ir_model.specs.declared.instr.Instr.{Instr}
use Rattle.ir_model.specs.declared.instr.Phi.{Phi}
use Rattle.ir_model.specs.declared.instr.Terminator.{Terminator}
use Rattle.ir_model.specs.declared.module.Block.{Block}
use Rattle.ir_model.specs.declared.module.Function.{Function}
use Rattle.ir_model.specs.declared.operand.Arg.{Arg}
use Rattle.ir_model.specs.declared.operand.Callee.{Callee}
use Rattle.ir_model.specs.declared.operand.Operand.{Operand}
use Rattle.rule_laws.specs.ir_paths.Paths.{block_points}
use Rattle.rule_laws.specs.ir_paths.Slots.{addresses_of, addresses_within, allocas_in, end_points, exposed_in_block, exposes, geps_from, has_name, is_escaped, is_gep, is_in_args, is_memcpy, is_no_use, occurs, occurs_in_phi, occurs_in_term, points_at}
use Rattle.rule_laws.specs.ir_paths.Windows.{end_block, instr_at, instr_in, points_where}
use Rattle.rule_laws.specs.ir_paths.declared.point.Point.{Point}
use Rattle.rule_laws.specs.run_laws.changed.Changed.{Each}
use Rattle.pass_early_proof.proofs.early.renaming.Slots.{plain_result}

module _ (r : Renaming) where
  -- ---- occurrences of plain names

  pub in_args_same : (v : ℕ) → IsPlain r v → (args : List Arg) → is_in_args v (map (renamed_arg r) args) ≡ is_in_args v args
  in_args_same v plain args = any_same (renamed_arg r) (λ a. is_local v a.value) (λ a. is_local v a.value) (λ a. local_same r v plain a.value) args

  pub callee_same : (v : ℕ) → IsPlain r v → (n : ℕ) → (v == renamed_value r n) ≡ (v == n)
  callee_same v plain n = local_same r v plain (Operand.Local n)

  pub occurs_same : (v : ℕ) → IsPlain r v → (i : Instr) → occurs v (renamed_instr r i) ≡ occurs v i
  occurs_same v plain (Instr.Binary name op flags ty a b) = λ k. local_same r v plain a k || local_same r v plain b k
  occurs_same v plain (Instr.Icmp name pred ty a b) = λ k. local_same r v plain a k || local_same r v plain b k
  occurs_same v plain (Instr.Select name x a b) = λ k. local_same r v plain x k || local_same r v plain a.value k || local_same r v plain b.value k
  occurs_same v plain (Instr.Cast name op nneg arg to) = local_same r v plain arg.value
  occurs_same v plain (Instr.Alloca name ty align) = refl
  occurs_same v plain (Instr.Load name ty p align) = local_same r v plain p
  occurs_same v plain (Instr.Store arg p align) = λ k. local_same r v plain arg.value k || local_same r v plain p k
  occurs_same v plain (Instr.Gep name inbounds ty base indices) = λ k. local_same r v plain base k || in_args_same v plain indices k
  occurs_same v plain (Instr.Call result must_tail ty (Callee.Local f) args) = λ k. callee_same v plain f k || in_args_same v plain args k
  occurs_same v plain (Instr.Call result must_tail ty (Callee.Named n) args) = in_args_same v plain args
  occurs_same v plain (Instr.Call result must_tail ty (Callee.Allocator a) args) = in_args_same v plain args
  occurs_same v plain (Instr.Call result must_tail ty (Callee.Intrinsic j) args) = in_args_same v plain args

  pub no_use_same : (c : Callee) → is_no_use (renamed_callee r c) ≡ is_no_use c
  no_use_same (Callee.Named n) = refl
  no_use_same (Callee.Allocator a) = refl
  no_use_same (Callee.Intrinsic i) = refl
  no_use_same (Callee.Local n) = refl

  pub memcpy_same : (c : Callee) → is_memcpy (renamed_callee r c) ≡ is_memcpy c
  memcpy_same (Callee.Named n) = refl
  memcpy_same (Callee.Allocator a) = refl
  memcpy_same (Callee.Intrinsic i) = refl
  memcpy_same (Callee.Local n) = refl

  pub exposes_same : (v : ℕ) → IsPlain r v → (i : Instr) → exposes v (renamed_instr r i) ≡ exposes v i
  exposes_same v plain (Instr.Binary name op flags ty a b) = occurs_same v plain (Instr.Binary name op flags ty a b)
  exposes_same v plain (Instr.Icmp name pred ty a b) = occurs_same v plain (Instr.Icmp name pred ty a b)
  exposes_same v plain (Instr.Select name x a b) = occurs_same v plain (Instr.Select name x a b)
  exposes_same v plain (Instr.Cast name op nneg arg to) = local_same r v plain arg.value
  exposes_same v plain (Instr.Alloca name ty align) = refl
  exposes_same v plain (Instr.Load name ty p align) = refl
  exposes_same v plain (Instr.Store arg p align) = local_same r v plain arg.value
  exposes_same v plain (Instr.Gep name inbounds ty base indices) = in_args_same v plain indices
  exposes_same v plain (Instr.Call result must_tail ty callee args) = λ k.
      not (no_use_same callee k) && not (memcpy_same callee k) && occurs_same v plain (Instr.Call result must_tail ty callee args) k

  pub phi_same : (v : ℕ) → IsPlain r v → (p : Phi) → occurs_in_phi v (renamed_phi r p) ≡ occurs_in_phi v p
  phi_same v plain p = any_same (renamed_incoming r) (λ i. is_local v i.value) (λ i. is_local v i.value) (λ i. local_same r v plain i.value) p.incoming

  pub term_same : (v : ℕ) → IsPlain r v → (t : Terminator) → occurs_in_term v (renamed_term r t) ≡ occurs_in_term v t
  term_same v plain (Terminator.Jump label) = refl
  term_same v plain (Terminator.Branch x a b) = local_same r v plain x
  term_same v plain (Terminator.Switch arg default cases) = local_same r v plain arg.value
  term_same v plain (Terminator.Ret None) = refl
  term_same v plain (Terminator.Ret (Some arg)) = local_same r v plain arg.value
  term_same v plain Terminator.Unreachable = refl

  pub exposed_same : (v : ℕ) → IsPlain r v → (b : Block) → exposed_in_block v (renamed_block r b) ≡ exposed_in_block v b
  exposed_same v plain b = λ k.
      any_same (renamed_phi r) (occurs_in_phi v) (occurs_in_phi v) (phi_same v plain) b.phis k
      || any_same (renamed_instr r) (exposes v) (exposes v) (exposes_same v plain) b.instrs k
      || term_same v plain b.term k

  -- ---- lists of plain names

  pub any_plain : (t u : ℕ → Bool) → ((v : ℕ) → IsPlain r v → t v ≡ u v) → (vs : List ℕ) → Each (IsPlain r) vs → list_any t vs ≡ list_any u vs
  any_plain t u h [] plain = refl
  any_plain t u h (v ∷ vs) plain = λ k. h v plain.0 k || any_plain t u h vs plain.1 k

  pub name_same : (vs : List ℕ) → Each (IsPlain r) vs → (n : ℕ) → has_name vs (renamed_value r n) ≡ has_name vs n
  name_same vs plain n = any_plain (λ u. u == renamed_value r n) (λ u. u == n) (λ v h. callee_same v h n) vs plain

  -- the instructions of some blocks have plain results but for calls
  abbrev pub PlainSlot : Instr → Type 0
  PlainSlot (Instr.Alloca name ty align) = IsPlain r name
  PlainSlot (Instr.Gep name inbounds ty base indices) = IsPlain r name
  PlainSlot i = Unit {0}

  pub geps_plain : (is_base : ℕ → Bool) (is : List Instr) → Each PlainSlot is → Each (IsPlain r) (geps_from is_base is)
  geps_plain is_base [] h = tt
  geps_plain is_base (Instr.Gep name inbounds ty (Operand.Local v) indices ∷ is) h = on (is_base v) (geps_plain is_base is h.1)
    where
      on : (b : Bool) → Each (IsPlain r) (geps_from is_base is) → Each (IsPlain r) ((if b then name ∷ [] else []) ++ geps_from is_base is)
      on true rest = (h.0, rest)
      on false rest = rest
  geps_plain is_base (i ∷ is) h = geps_plain is_base is h.1

  pub geps_same : (t u : ℕ → Bool) → ((n : ℕ) → t (renamed_value r n) ≡ u n) → (is : List Instr) → geps_from t (map (renamed_instr r) is) ≡ geps_from u is
  geps_same t u h [] = refl
  geps_same t u h (Instr.Gep name inbounds ty (Operand.Local v) indices ∷ is) = λ k. (if h v k then name ∷ [] else []) ++ geps_same t u h is k
  geps_same t u h (Instr.Gep name inbounds ty (Operand.Global n) indices ∷ is) = geps_same t u h is
  geps_same t u h (Instr.Gep name inbounds ty (Operand.Number z) indices ∷ is) = geps_same t u h is
  geps_same t u h (Instr.Gep name inbounds ty Operand.True indices ∷ is) = geps_same t u h is
  geps_same t u h (Instr.Gep name inbounds ty Operand.False indices ∷ is) = geps_same t u h is
  geps_same t u h (Instr.Gep name inbounds ty Operand.Null indices ∷ is) = geps_same t u h is
  geps_same t u h (Instr.Gep name inbounds ty Operand.None indices ∷ is) = geps_same t u h is
  geps_same t u h (Instr.Gep name inbounds ty Operand.Poison indices ∷ is) = geps_same t u h is
  geps_same t u h (Instr.Call result must_tail ty callee args ∷ is) = geps_same t u h is
  geps_same t u h (Instr.Binary name op flags ty a b ∷ is) = geps_same t u h is
  geps_same t u h (Instr.Icmp name pred ty a b ∷ is) = geps_same t u h is
  geps_same t u h (Instr.Select name x a b ∷ is) = geps_same t u h is
  geps_same t u h (Instr.Cast name op nneg arg to ∷ is) = geps_same t u h is
  geps_same t u h (Instr.Alloca name ty align ∷ is) = geps_same t u h is
  geps_same t u h (Instr.Load name ty p align ∷ is) = geps_same t u h is
  geps_same t u h (Instr.Store arg p align ∷ is) = geps_same t u h is

  pub allocas_same : (is : List Instr) → allocas_in (map (renamed_instr r) is) ≡ allocas_in is
  allocas_same [] = refl
  allocas_same (Instr.Alloca name ty align ∷ is) = ap (λ ns. name ∷ ns) (allocas_same is)
  allocas_same (Instr.Gep name inbounds ty base indices ∷ is) = allocas_same is
  allocas_same (Instr.Call result must_tail ty callee args ∷ is) = allocas_same is
  allocas_same (Instr.Binary name op flags ty a b ∷ is) = allocas_same is
  allocas_same (Instr.Icmp name pred ty a b ∷ is) = allocas_same is
  allocas_same (Instr.Select name x a b ∷ is) = allocas_same is
  allocas_same (Instr.Cast name op nneg arg to ∷ is) = allocas_same is
  allocas_same (Instr.Load name ty p align ∷ is) = allocas_same is
  allocas_same (Instr.Store arg p align ∷ is) = allocas_same is

  pub allocas_plain : (is : List Instr) → Each PlainSlot is → Each (IsPlain r) (allocas_in is)
  allocas_plain [] h = tt
  allocas_plain (Instr.Alloca name ty align ∷ is) h = (h.0, allocas_plain is h.1)
  allocas_plain (Instr.Gep name inbounds ty base indices ∷ is) h = allocas_plain is h.1
  allocas_plain (Instr.Call result must_tail ty callee args ∷ is) h = allocas_plain is h.1
  allocas_plain (Instr.Binary name op flags ty a b ∷ is) h = allocas_plain is h.1
  allocas_plain (Instr.Icmp name pred ty a b ∷ is) h = allocas_plain is h.1
  allocas_plain (Instr.Select name x a b ∷ is) h = allocas_plain is h.1
  allocas_plain (Instr.Cast name op nneg arg to ∷ is) h = allocas_plain is h.1
  allocas_plain (Instr.Load name ty p align ∷ is) h = allocas_plain is h.1
  allocas_plain (Instr.Store arg p align ∷ is) h = allocas_plain is h.1

  pub blocks_same : (t u : List Instr → List ℕ) → ((is : List Instr) → t (map (renamed_instr r) is) ≡ u is) → (bs : List Block) → flat_map (λ b. t b.instrs) (map (renamed_block r) bs) ≡ flat_map (λ b. u b.instrs) bs
  blocks_same t u h [] = refl
  blocks_same t u h (b ∷ bs) = λ k. h b.instrs k ++ blocks_same t u h bs k

  pub blocks_plain : (t : List Instr → List ℕ) → ((is : List Instr) → Each PlainSlot is → Each (IsPlain r) (t is)) → (bs : List Block) → Each (λ b. Each PlainSlot b.instrs) bs → Each (IsPlain r) (flat_map (λ b. t b.instrs) bs)
  blocks_plain t h [] plain = tt
  blocks_plain t h (b ∷ bs) plain = each_behind (IsPlain r) (t b.instrs) (flat_map (λ c. t c.instrs) bs) (h b.instrs plain.0) (blocks_plain t h bs plain.1)

module _ (r : Renaming) (f : Function) (ok : IsRegular f r) where
  abbrev g : Function
  g = renamed_coroutine r f

  -- ---- names

  pub slot_plain : (p : Point) (i : Instr) → instr_at f p ≡ Some i → PlainSlot r i
  slot_plain p (Instr.Alloca name ty align) e = plain_result r f ok p (Instr.Alloca name ty align) name e refl refl refl
  slot_plain p (Instr.Gep name inbounds ty base indices) e = plain_result r f ok p (Instr.Gep name inbounds ty base indices) name e refl refl refl
  slot_plain p (Instr.Call result must_tail ty callee args) e = tt
  slot_plain p (Instr.Binary name op flags ty a b) e = tt
  slot_plain p (Instr.Icmp name pred ty a b) e = tt
  slot_plain p (Instr.Select name x a b) e = tt
  slot_plain p (Instr.Cast name op nneg arg to) e = tt
  slot_plain p (Instr.Load name ty q align) e = tt
  slot_plain p (Instr.Store arg q align) e = tt

  -- what holds of the instruction at each point holds of those of each block
  pub in_blocks : (P : Instr → Type 0) → ((p : Point) (i : Instr) → instr_at f p ≡ Some i → P i) → Each (λ b. Each P b.instrs) f.blocks
  in_blocks P h = each_there (λ (b : Block). Each P b.instrs) f.blocks (λ n b e. each_there P b.instrs (λ k i d. h (record { block = n; at = k }) i (ap (λ (o : Option Block). instr_in o k) e ∙ d)))

  pub slots_plain : Each (λ b. Each (PlainSlot r) b.instrs) f.blocks
  slots_plain = in_blocks (PlainSlot r) slot_plain

  pub addresses_plain : (n alloca : ℕ) → IsPlain r alloca → Each (IsPlain r) (addresses_within n f alloca)
  addresses_plain zero alloca plain = (plain, tt)
  addresses_plain (suc n) alloca plain = (plain, blocks_plain r (geps_from (has_name (addresses_within n f alloca))) (geps_plain r (has_name (addresses_within n f alloca))) f.blocks slots_plain)

  pub addresses_within_same : (n alloca : ℕ) → IsPlain r alloca → addresses_within n g alloca ≡ addresses_within n f alloca
  addresses_within_same zero alloca plain = refl
  addresses_within_same (suc n) alloca plain =
      ap (λ (vs : List ℕ). alloca ∷ vs) (blocks_same r (geps_from (has_name (addresses_within n g alloca))) (geps_from (has_name (addresses_within n f alloca)))
      (geps_same r (has_name (addresses_within n g alloca)) (has_name (addresses_within n f alloca)) (λ v. ap (λ (vs : List ℕ). has_name vs (renamed_value r v)) (addresses_within_same n alloca plain) ∙ name_same r (addresses_within n f alloca) (addresses_plain n alloca plain) v)) f.blocks)

  pub gep_same : (i : Instr) → is_gep (renamed_instr r i) ≡ is_gep i
  gep_same (Instr.Alloca name ty align) = refl
  gep_same (Instr.Gep name inbounds ty base indices) = refl
  gep_same (Instr.Call result must_tail ty callee args) = refl
  gep_same (Instr.Binary name op flags ty a b) = refl
  gep_same (Instr.Icmp name pred ty a b) = refl
  gep_same (Instr.Select name x a b) = refl
  gep_same (Instr.Cast name op nneg arg to) = refl
  gep_same (Instr.Load name ty q align) = refl
  gep_same (Instr.Store arg q align) = refl

  pub addresses_same : (alloca : ℕ) → IsPlain r alloca → addresses_of g alloca ≡ addresses_of f alloca
  addresses_same alloca plain =
      ap (λ (ps : List Point). addresses_within (length ps) g alloca) (points_where_same r is_gep is_gep gep_same f)
      ∙ addresses_within_same (length (points_where is_gep f)) alloca plain

  pub of_addresses_plain : (alloca : ℕ) → IsPlain r alloca → Each (IsPlain r) (addresses_of f alloca)
  of_addresses_plain alloca plain = addresses_plain (length (points_where is_gep f)) alloca plain

  -- ---- the classes of slots

  pub escaped_same : (alloca : ℕ) → IsPlain r alloca → is_escaped g alloca ≡ is_escaped f alloca
  escaped_same alloca plain =
      ap (λ (vs : List ℕ). list_any (λ v. list_any (exposed_in_block v) g.blocks) vs) (addresses_same alloca plain)
      ∙ any_plain r (λ v. list_any (exposed_in_block v) g.blocks) (λ v. list_any (exposed_in_block v) f.blocks) (λ v h. any_same (renamed_block r) (exposed_in_block v) (exposed_in_block v) (exposed_same r v h) f.blocks) (addresses_of f alloca) (of_addresses_plain alloca plain)

  pub points_at_same : (n : ℕ) (o : Option Block) → points_at n (option_map (renamed_block r) o) ≡ points_at n o
  points_at_same n None = refl
  points_at_same n (Some b) = ap (block_points n) (length_same (renamed_instr r) b.instrs)

  pub end_points_same : end_points g ≡ end_points f
  end_points_same =
      ap (λ (n : ℕ). points_at n (slice_get g.blocks n)) (end_same r f)
      ∙ ap (points_at (end_block f)) (block_same r f (end_block f))
      ∙ points_at_same (end_block f) (slice_get f.blocks (end_block f))
