-- What a renamed function has in common with its own.
use Rattle.std.proofs.Common.{◌≡◌, ℕ, zero, suc, ◌+◌, Bool, true, false, List, [], ◌∷◌, ◌++◌, length, refl, sym, ap, ◌∙◌}
use Rattle.std.proofs.lemmas.Option.{slice_get-map}
use Rattle.std.specs.List.{list_any}
use Rattle.std.specs.Prelude.{Some, None, Option, option_map, map, nat_lt, slice_get, unwrap_or, if◌then◌else◌, ◌==◌, ◌||◌}
use Rattle.pass_early_proof.proofs.early.renaming.Actions.{renamed_fetched}
use Rattle.rule_laws.proofs.ir_laws.facts.Lists.{any_same, first_same}
use Rattle.rule_laws.proofs.ir_laws.facts.Truth.{equal_numbers}
use Rattle.run_states.proofs.renamed.Modules.{length_same}
use Rattle.pass_early_proof.specs.early.renaming.Passes.{renamed_block, renamed_coroutine}
use Rattle.pass_early_proof.specs.early.renaming.Regular.{IsPlain}
use Rattle.pass_early.specs.Renaming.{is_renamed, renamed, renamed_arg, renamed_instr, renamed_term}
use Rattle.pass_early.specs.declared.renaming.Renaming.{Renaming}
use Rattle.ir_model.specs.Names.{is_local, position_of}
use Rattle.ir_model.specs.declared.instr.Instr.{Instr}
use Rattle.ir_model.specs.declared.instr.Terminator.{Terminator}
use Rattle.ir_model.specs.declared.module.Block.{Block}
use Rattle.ir_model.specs.declared.module.Function.{Function}
use Rattle.ir_model.specs.declared.operand.Arg.{Arg}
use Rattle.ir_model.specs.declared.operand.Callee.{Callee}
use Rattle.ir_model.specs.declared.operand.Intrinsic.{Intrinsic}
use Rattle.ir_model.specs.declared.operand.Operand.{Operand}
use Rattle.rule_laws.specs.ir_paths.Paths.{block_points, edge_count, edges_from, entry_point, found_from, found_within, has_point, led_to, nexts, nexts_in, opened, points_of_blocks, targets}
use Rattle.rule_laws.specs.ir_paths.Windows.{call_operand, call_result, destroy_label, end_block, instr_at, instr_in, is_call_of, label_at, label_of_term, resume_label, operand_at, points_from, points_in, points_where}
use Rattle.rule_laws.specs.ir_paths.declared.point.Point.{Point}
use Rattle.rule_laws.specs.run_step.Step.{fetch, fetch_in, fetch_or, label_of}

-- ---- operands of names that aren't concerned

module _ (r : Renaming) where
  pub local_same : (v : ℕ) → IsPlain r v → (x : Operand) → is_local v (renamed r x) ≡ is_local v x
  local_same v plain (Operand.Local n) = on (is_renamed r n) refl
    where
      other : (b : Bool) → (v == n) ≡ b → is_renamed r n ≡ true → false ≡ b
      other true e h = let same : v ≡ n = equal_numbers v n e in sym plain.stays ∙ ap (is_renamed r) same ∙ h
      other false e h = refl

      on : (b : Bool) → is_renamed r n ≡ b → (v == (if b then r.to else n)) ≡ (v == n)
      on true h = plain.is_other ∙ other (v == n) refl h
      on false h = refl
  local_same v plain (Operand.Global n) = refl
  local_same v plain (Operand.Number z) = refl
  local_same v plain Operand.True = refl
  local_same v plain Operand.False = refl
  local_same v plain Operand.Null = refl
  local_same v plain Operand.None = refl
  local_same v plain Operand.Poison = refl

  pub operand_at_same : (args : List Arg) (i : ℕ) → operand_at (map (renamed_arg r) args) i ≡ renamed r (operand_at args i)
  operand_at_same [] i = refl
  operand_at_same (a ∷ args) zero = refl
  operand_at_same (a ∷ args) (suc i) = operand_at_same args i

  pub call_of_same : (j : Intrinsic) (i : Instr) → is_call_of j (renamed_instr r i) ≡ is_call_of j i
  call_of_same j (Instr.Call result must_tail ty (Callee.Intrinsic k) args) = refl
  call_of_same j (Instr.Call result must_tail ty (Callee.Named n) args) = refl
  call_of_same j (Instr.Call result must_tail ty (Callee.Allocator a) args) = refl
  call_of_same j (Instr.Call result must_tail ty (Callee.Local n) args) = refl
  call_of_same j (Instr.Binary name op flags ty a b) = refl
  call_of_same j (Instr.Icmp name pred ty a b) = refl
  call_of_same j (Instr.Select name x a b) = refl
  call_of_same j (Instr.Cast name op nneg arg to) = refl
  call_of_same j (Instr.Alloca name ty align) = refl
  call_of_same j (Instr.Load name ty p align) = refl
  call_of_same j (Instr.Store arg p align) = refl
  call_of_same j (Instr.Gep name inbounds ty base indices) = refl

  pub call_operand_same : (i : Instr) (n : ℕ) → call_operand (renamed_instr r i) n ≡ renamed r (call_operand i n)
  call_operand_same (Instr.Call result must_tail ty callee args) n = operand_at_same args n
  call_operand_same (Instr.Binary name op flags ty a b) n = refl
  call_operand_same (Instr.Icmp name pred ty a b) n = refl
  call_operand_same (Instr.Select name x a b) n = refl
  call_operand_same (Instr.Cast name op nneg arg to) n = refl
  call_operand_same (Instr.Alloca name ty align) n = refl
  call_operand_same (Instr.Load name ty p align) n = refl
  call_operand_same (Instr.Store arg p align) n = refl
  call_operand_same (Instr.Gep name inbounds ty base indices) n = refl

  pub targets_same : (t : Terminator) → targets (renamed_term r t) ≡ targets t
  targets_same (Terminator.Jump label) = refl
  targets_same (Terminator.Branch x a b) = refl
  targets_same (Terminator.Switch arg default cases) = refl
  targets_same (Terminator.Ret v) = refl
  targets_same Terminator.Unreachable = refl

  -- ---- blocks and points

  pub block_same : (f : Function) (block : ℕ) → slice_get (renamed_coroutine r f).blocks block ≡ option_map (renamed_block r) (slice_get f.blocks block)
  block_same f block = slice_get-map (renamed_block r) f.blocks block

  pub position_same : (f : Function) (label : ℕ) → position_of (renamed_coroutine r f) label ≡ position_of f label
  position_same f label =
      (λ i. unwrap_or (first_same (renamed_block r) (λ b. b.label == label) (λ b. b.label == label) (λ b. refl) f.blocks i) (length_same (renamed_block r) f.blocks i))

  pub label_same : (o : Option Block) → label_of (option_map (renamed_block r) o) ≡ label_of o
  label_same None = refl
  label_same (Some b) = refl

  pub instr_same : (f : Function) (p : Point) → instr_at (renamed_coroutine r f) p ≡ option_map (renamed_instr r) (instr_at f p)
  instr_same f p = ap (λ (o : Option Block). instr_in o p.at) (block_same f p.block) ∙ on (slice_get f.blocks p.block)
    where
      on : (o : Option Block) → instr_in (option_map (renamed_block r) o) p.at ≡ option_map (renamed_instr r) (instr_in o p.at)
      on None = refl
      on (Some b) = slice_get-map (renamed_instr r) b.instrs p.at

  pub result_same : (i : Instr) → call_result (renamed_instr r i) ≡ call_result i
  result_same (Instr.Call result must_tail ty callee args) = refl
  result_same (Instr.Binary name op flags ty a b) = refl
  result_same (Instr.Icmp name pred ty a b) = refl
  result_same (Instr.Select name x a b) = refl
  result_same (Instr.Cast name op nneg arg to) = refl
  result_same (Instr.Alloca name ty align) = refl
  result_same (Instr.Load name ty p align) = refl
  result_same (Instr.Store arg p align) = refl
  result_same (Instr.Gep name inbounds ty base indices) = refl

  pub entry_same : (f : Function) (label : ℕ) → entry_point (renamed_coroutine r f) label ≡ entry_point f label
  entry_same f label = λ i. record { block = position_same f label i; at = 0 }

  pub nexts_same : (f : Function) (p : Point) → nexts (renamed_coroutine r f) p ≡ nexts f p
  nexts_same f p = ap (nexts_in (renamed_coroutine r f) p) (block_same f p.block) ∙ on (slice_get f.blocks p.block)
    where
      on : (o : Option Block) → nexts_in (renamed_coroutine r f) p (option_map (renamed_block r) o) ≡ nexts_in f p o
      on None = refl
      on (Some b) = λ i.
          if nat_lt p.at (length_same (renamed_instr r) b.instrs i) then record { block = p.block; at = p.at + 1 } ∷ []
          else if p.at == length_same (renamed_instr r) b.instrs i then map (λ label. entry_same f label i) (targets_same b.term i)
          else []

  -- ---- searches

  found_within_same : (n : ℕ) (f : Function) (avoided todo seen : List Point) → found_within n (renamed_coroutine r f) avoided todo seen ≡ found_within n f avoided todo seen
  found_within_same zero f avoided todo seen = refl
  found_within_same (suc n) f avoided [] seen = refl
  found_within_same (suc n) f avoided (p ∷ todo) seen =
      ap (λ (ps : List Point). found_within n (renamed_coroutine r f) avoided ((if has_point seen p || has_point avoided p then [] else ps) ++ todo) (if has_point seen p then seen else p ∷ seen)) (nexts_same f p)
      ∙ found_within_same n f avoided (opened f avoided seen p ++ todo) (if has_point seen p then seen else p ∷ seen)

  points_same : (block : ℕ) (bs : List Block) → points_of_blocks block (map (renamed_block r) bs) ≡ points_of_blocks block bs
  points_same block [] = refl
  points_same block (b ∷ bs) = λ i. block_points block (length_same (renamed_instr r) b.instrs i) ++ points_same (suc block) bs i

  edges_same : (f : Function) (ps : List Point) → edges_from (renamed_coroutine r f) ps ≡ edges_from f ps
  edges_same f [] = refl
  edges_same f (p ∷ ps) = λ i. length (nexts_same f p i) + edges_same f ps i

  pub found_same : (f : Function) (avoided todo : List Point) → found_from (renamed_coroutine r f) avoided todo ≡ found_from f avoided todo
  found_same f avoided todo =
      ap (λ (n : ℕ). found_within (length todo + n) (renamed_coroutine r f) avoided todo []) (edges_same f (points_of_blocks 0 (renamed_coroutine r f).blocks) ∙ ap (edges_from f) (points_same 0 f.blocks))
      ∙ found_within_same (length todo + edge_count f) f avoided todo []

  pub led_same : (f : Function) (avoided : List Point) (p : Point) → led_to (renamed_coroutine r f) avoided p ≡ led_to f avoided p
  led_same f avoided p = ap (found_from (renamed_coroutine r f) avoided) (nexts_same f p) ∙ found_same f avoided (nexts f p)

  points_from_same : (t u : Instr → Bool) → ((i : Instr) → t (renamed_instr r i) ≡ u i) → (block at : ℕ) (is : List Instr) → points_from t block at (map (renamed_instr r) is) ≡ points_from u block at is
  points_from_same t u h block at [] = refl
  points_from_same t u h block at (i ∷ is) = λ k.
      if h i k then record { block = block; at = at } ∷ points_from_same t u h block (suc at) is k else points_from_same t u h block (suc at) is k

  points_in_same : (t u : Instr → Bool) → ((i : Instr) → t (renamed_instr r i) ≡ u i) → (block : ℕ) (bs : List Block) → points_in t block (map (renamed_block r) bs) ≡ points_in u block bs
  points_in_same t u h block [] = refl
  points_in_same t u h block (b ∷ bs) = λ k. points_from_same t u h block 0 b.instrs k ++ points_in_same t u h (suc block) bs k

  pub points_where_same : (t u : Instr → Bool) → ((i : Instr) → t (renamed_instr r i) ≡ u i) → (f : Function) → points_where t (renamed_coroutine r f) ≡ points_where u f
  points_where_same t u h f = points_in_same t u h 0 f.blocks

  pub end_same : (f : Function) → end_block (renamed_coroutine r f) ≡ end_block f
  end_same f = λ k.
      unwrap_or (first_same (renamed_block r) (λ b. list_any (is_call_of Intrinsic.CoroEnd) b.instrs) (λ b. list_any (is_call_of Intrinsic.CoroEnd) b.instrs) (λ b. any_same (renamed_instr r) (is_call_of Intrinsic.CoroEnd) (is_call_of Intrinsic.CoroEnd) (call_of_same Intrinsic.CoroEnd) b.instrs) f.blocks k)
      (length_same (renamed_block r) f.blocks k)

  label_term_same : (n : ℕ) (t : Terminator) → label_of_term n (renamed_term r t) ≡ label_of_term n t
  label_term_same n (Terminator.Jump label) = refl
  label_term_same n (Terminator.Branch x a b) = refl
  label_term_same n (Terminator.Switch arg default cases) = refl
  label_term_same n (Terminator.Ret v) = refl
  label_term_same n Terminator.Unreachable = refl

  label_at_same : (n : ℕ) (o : Option Block) → label_at n (option_map (renamed_block r) o) ≡ label_at n o
  label_at_same n None = refl
  label_at_same n (Some b) = label_term_same n b.term

  pub resume_same : (f : Function) (s : Point) → resume_label (renamed_coroutine r f) s ≡ resume_label f s
  resume_same f s = ap (label_at 0) (block_same f s.block) ∙ label_at_same 0 (slice_get f.blocks s.block)

  pub destroy_same : (f : Function) (s : Point) → destroy_label (renamed_coroutine r f) s ≡ destroy_label f s
  destroy_same f s = ap (label_at 1) (block_same f s.block) ∙ label_at_same 1 (slice_get f.blocks s.block)

  pub fetch_same : (f : Function) (block at : ℕ) → fetch (renamed_coroutine r f) block at ≡ renamed_fetched r (fetch f block at)
  fetch_same f block at = ap (λ (o : Option Block). fetch_in o at) (block_same f block) ∙ on (slice_get f.blocks block)
    where
      instr : (b : Block) (o : Option Instr) (last : Bool) → fetch_or (option_map (renamed_instr r) o) last (renamed_term r b.term) ≡ renamed_fetched r (fetch_or o last b.term)
      instr b None true = refl
      instr b None false = refl
      instr b (Some i) last = refl

      on : (o : Option Block) → fetch_in (option_map (renamed_block r) o) at ≡ renamed_fetched r (fetch_in o at)
      on None = refl
      on (Some b) =
          (λ i. fetch_or (slice_get-map (renamed_instr r) b.instrs at i) (at == length_same (renamed_instr r) b.instrs i) (renamed_term r b.term))
          ∙ instr b (slice_get b.instrs at) (at == length b.instrs)
