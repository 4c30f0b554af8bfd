-- What a function whose begin is named has in common with its own: what stands where, paths and points.
use Rattle.std.proofs.Common.{◌≡◌, ℕ, zero, suc, ◌+◌, Bool, true, false, List, [], ◌∷◌, ◌++◌, length, refl, ap, ◌∙◌}
use Rattle.std.proofs.lemmas.Option.{slice_get-map}
use Rattle.std.specs.List.{list_any}
use Rattle.std.specs.Prelude.{Some, None, Option, option_map, map, nat_lt, slice_get, unwrap_or, if◌then◌else◌, ◌==◌, ◌||◌}
use Rattle.rule_laws.proofs.ir_laws.facts.Lists.{any_same, first_same}
use Rattle.run_states.proofs.renamed.Modules.{length_same}
use Rattle.pass_early.specs.BeginName.{begin_name, named_block, named_instr}
use Rattle.ir_model.specs.Names.{position_of}
use Rattle.ir_model.specs.Ty.{Ty}
use Rattle.ir_model.specs.declared.instr.Instr.{Instr}
use Rattle.ir_model.specs.declared.module.Block.{Block}
use Rattle.ir_model.specs.declared.module.Function.{Function}
use Rattle.ir_model.specs.declared.operand.Arg.{Arg}
use Rattle.ir_model.specs.declared.operand.Callee.{Callee}
use Rattle.ir_model.specs.declared.operand.Intrinsic.{Intrinsic}
use Rattle.rule_laws.specs.ir_paths.Paths.{block_points, edge_count, edges_from, entry_point, found_from, found_within, has_point, led_to, nexts, nexts_in, opened, points_of_blocks, targets}
use Rattle.rule_laws.specs.ir_paths.Windows.{destroy_label, end_block, instr_at, instr_in, is_call_of, label_at, points_from, points_in, points_where, resume_label}
use Rattle.rule_laws.specs.ir_paths.declared.point.Point.{Point}
use Rattle.rule_laws.specs.run_step.Step.{AtInstr, AtTerm, Fetched, Nowhere, fetch, fetch_in, fetch_or, label_of}

-- the function with its begins given a name
abbrev pub with_begin : ℕ → Function → Function
with_begin n f = record { name = f.name; result = f.result; params = f.params; coroutine = f.coroutine; blocks = map (named_block n) f.blocks; names = f.names ++ begin_name ∷ [] }

abbrev pub named_fetched : ℕ → Fetched → Fetched
named_fetched n Nowhere = Nowhere
named_fetched n (AtInstr i) = AtInstr (named_instr n i)
named_fetched n (AtTerm t) = AtTerm t

-- what doesn't look at the result of a begin is the same
pub same_but_begin : {A : Type 0} (n : ℕ) (t : Instr → A) → ((result : Option ℕ) (must_tail : Bool) (ty : Option Ty) (args : List Arg) → t (Instr.Call (Some n) must_tail ty (Callee.Intrinsic Intrinsic.CoroBegin) args) ≡ t (Instr.Call result must_tail ty (Callee.Intrinsic Intrinsic.CoroBegin) args)) → (i : Instr) → t (named_instr n i) ≡ t i
same_but_begin n t h (Instr.Call result must_tail ty (Callee.Intrinsic Intrinsic.CoroBegin) args) = h result must_tail ty args
same_but_begin n t h i = refl

module _ (n : ℕ) where
  pub call_of_same : (j : Intrinsic) (i : Instr) → is_call_of j (named_instr n i) ≡ is_call_of j i
  call_of_same j i = same_but_begin n (is_call_of j) (λ result must_tail ty args. refl) i

  -- ---- blocks and points

  pub block_same : (f : Function) (block : ℕ) → slice_get (with_begin n f).blocks block ≡ option_map (named_block n) (slice_get f.blocks block)
  block_same f block = slice_get-map (named_block n) f.blocks block

  pub position_same : (f : Function) (label : ℕ) → position_of (with_begin n f) label ≡ position_of f label
  position_same f label =
      (λ i. unwrap_or (first_same (named_block n) (λ b. b.label == label) (λ b. b.label == label) (λ b. refl) f.blocks i) (length_same (named_block n) f.blocks i))

  pub label_same : (o : Option Block) → label_of (option_map (named_block n) o) ≡ label_of o
  label_same None = refl
  label_same (Some b) = refl

  pub instr_same : (f : Function) (p : Point) → instr_at (with_begin n f) p ≡ option_map (named_instr n) (instr_at f p)
  instr_same f p = ap (λ (o : Option Block). instr_in o p.at) (block_same f p.block) ∙ on (slice_get f.blocks p.block)
    where
      on : (o : Option Block) → instr_in (option_map (named_block n) o) p.at ≡ option_map (named_instr n) (instr_in o p.at)
      on None = refl
      on (Some b) = slice_get-map (named_instr n) b.instrs p.at

  pub entry_same : (f : Function) (label : ℕ) → entry_point (with_begin n f) label ≡ entry_point f label
  entry_same f label = λ i. record { block = position_same f label i; at = 0 }

  pub nexts_same : (f : Function) (p : Point) → nexts (with_begin n f) p ≡ nexts f p
  nexts_same f p = ap (nexts_in (with_begin n f) p) (block_same f p.block) ∙ on (slice_get f.blocks p.block)
    where
      on : (o : Option Block) → nexts_in (with_begin n f) p (option_map (named_block n) o) ≡ nexts_in f p o
      on None = refl
      on (Some b) = λ i.
          if nat_lt p.at (length_same (named_instr n) b.instrs i) then record { block = p.block; at = p.at + 1 } ∷ []
          else if p.at == length_same (named_instr n) b.instrs i then map (λ label. entry_same f label i) (targets b.term)
          else []

  -- ---- searches

  found_within_same : (k : ℕ) (f : Function) (avoided todo seen : List Point) → found_within k (with_begin n f) avoided todo seen ≡ found_within k f avoided todo seen
  found_within_same zero f avoided todo seen = refl
  found_within_same (suc k) f avoided [] seen = refl
  found_within_same (suc k) f avoided (p ∷ todo) seen =
      ap (λ (ps : List Point). found_within k (with_begin n f) avoided ((if has_point seen p || has_point avoided p then [] else ps) ++ todo) (if has_point seen p then seen else p ∷ seen)) (nexts_same f p)
      ∙ found_within_same k f avoided (opened f avoided seen p ++ todo) (if has_point seen p then seen else p ∷ seen)

  points_same : (block : ℕ) (bs : List Block) → points_of_blocks block (map (named_block n) bs) ≡ points_of_blocks block bs
  points_same block [] = refl
  points_same block (b ∷ bs) = λ i. block_points block (length_same (named_instr n) b.instrs i) ++ points_same (suc block) bs i

  edges_same : (f : Function) (ps : List Point) → edges_from (with_begin n f) ps ≡ edges_from f ps
  edges_same f [] = refl
  edges_same f (p ∷ ps) = λ i. length (nexts_same f p i) + edges_same f ps i

  pub found_same : (f : Function) (avoided todo : List Point) → found_from (with_begin n f) avoided todo ≡ found_from f avoided todo
  found_same f avoided todo =
      ap (λ (k : ℕ). found_within (length todo + k) (with_begin n f) avoided todo []) (edges_same f (points_of_blocks 0 (with_begin n f).blocks) ∙ ap (edges_from f) (points_same 0 f.blocks))
      ∙ found_within_same (length todo + edge_count f) f avoided todo []

  pub led_same : (f : Function) (avoided : List Point) (p : Point) → led_to (with_begin n f) avoided p ≡ led_to f avoided p
  led_same f avoided p = ap (found_from (with_begin n f) avoided) (nexts_same f p) ∙ found_same f avoided (nexts f p)

  points_from_same : (t : Instr → Bool) → ((i : Instr) → t (named_instr n i) ≡ t i) → (block at : ℕ) (is : List Instr) → points_from t block at (map (named_instr n) is) ≡ points_from t block at is
  points_from_same t h block at [] = refl
  points_from_same t h block at (i ∷ is) = λ k.
      if h i k then record { block = block; at = at } ∷ points_from_same t h block (suc at) is k else points_from_same t h block (suc at) is k

  points_in_same : (t : Instr → Bool) → ((i : Instr) → t (named_instr n i) ≡ t i) → (block : ℕ) (bs : List Block) → points_in t block (map (named_block n) bs) ≡ points_in t block bs
  points_in_same t h block [] = refl
  points_in_same t h block (b ∷ bs) = λ k. points_from_same t h block 0 b.instrs k ++ points_in_same t h (suc block) bs k

  pub points_where_same : (t : Instr → Bool) → ((i : Instr) → t (named_instr n i) ≡ t i) → (f : Function) → points_where t (with_begin n f) ≡ points_where t f
  points_where_same t h f = points_in_same t h 0 f.blocks

  pub end_same : (f : Function) → end_block (with_begin n f) ≡ end_block f
  end_same f = λ k.
      unwrap_or (first_same (named_block n) (λ b. list_any (is_call_of Intrinsic.CoroEnd) b.instrs) (λ b. list_any (is_call_of Intrinsic.CoroEnd) b.instrs) (λ b. any_same (named_instr n) (is_call_of Intrinsic.CoroEnd) (is_call_of Intrinsic.CoroEnd) (call_of_same Intrinsic.CoroEnd) b.instrs) f.blocks k)
      (length_same (named_block n) f.blocks k)

  label_at_same : (k : ℕ) (o : Option Block) → label_at k (option_map (named_block n) o) ≡ label_at k o
  label_at_same k None = refl
  label_at_same k (Some b) = refl

  pub resume_same : (f : Function) (s : Point) → resume_label (with_begin n f) s ≡ resume_label f s
  resume_same f s = ap (label_at 0) (block_same f s.block) ∙ label_at_same 0 (slice_get f.blocks s.block)

  pub destroy_same : (f : Function) (s : Point) → destroy_label (with_begin n f) s ≡ destroy_label f s
  destroy_same f s = ap (label_at 1) (block_same f s.block) ∙ label_at_same 1 (slice_get f.blocks s.block)

  pub fetch_same : (f : Function) (block at : ℕ) → fetch (with_begin n f) block at ≡ named_fetched n (fetch f block at)
  fetch_same f block at = ap (λ (o : Option Block). fetch_in o at) (block_same f block) ∙ on (slice_get f.blocks block)
    where
      instr : (b : Block) (o : Option Instr) (last : Bool) → fetch_or (option_map (named_instr n) o) last b.term ≡ named_fetched n (fetch_or o last b.term)
      instr b None true = refl
      instr b None false = refl
      instr b (Some i) last = refl

      on : (o : Option Block) → fetch_in (option_map (named_block n) o) at ≡ named_fetched n (fetch_in o at)
      on None = refl
      on (Some b) =
          (λ i. fetch_or (slice_get-map (named_instr n) b.instrs at i) (at == length_same (named_instr n) b.instrs i) b.term)
          ∙ instr b (slice_get b.instrs at) (at == length b.instrs)
