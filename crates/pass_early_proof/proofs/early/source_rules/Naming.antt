-- A coroutine whose begin gets a name: what stays, and what changes.
use Rattle.std.proofs.Common.{◌≡◌, ℕ, suc, ◌+◌, Bool, true, false, List, [], ◌∷◌, ◌++◌, length, refl, sym, ap, ◌∙◌, subst}
use Rattle.std.proofs.lemmas.Option.{slice_get-map}
use Rattle.std.specs.List.{list_any}
use Rattle.std.specs.Prelude.{IsTrue, Some, None, Option, map, nat_lt, option_and_then, option_map, slice_get, unwrap_or, ◌==◌, ◌||◌, ◌&&◌, if◌then◌else◌}
use Rattle.rule_laws.proofs.ir_laws.facts.Lists.{first_same}
use Rattle.run_states.proofs.renamed.Modules.{length_same}
use Rattle.rule_laws.specs.ir_laws.paths.renamed.Regular.{Ahead, AsOperand, Here, IsDead, IsTaken, IsUsed, Next, OnEdge, is_call_at, makes, operands_read, stops}
use Rattle.pass_early_proof.specs.early.renaming.Regular.{IsDeadAt, IsDeadBehind}
use Rattle.rule_laws.specs.ir_laws.facts.renamed.Regular.{is_result, passes}
use Rattle.pass_early.specs.BeginName.{begin_named, named_block, named_instr}
use Rattle.ir_model.specs.Names.{is_local, position_of}
use Rattle.ir_model.specs.declared.instr.Instr.{Instr}
use Rattle.ir_model.specs.declared.instr.Terminator.{Terminator}
use Rattle.ir_model.specs.declared.module.Block.{Block}
use Rattle.ir_model.specs.declared.module.Function.{Function}
use Rattle.ir_model.specs.declared.operand.Callee.{Callee}
use Rattle.ir_model.specs.declared.operand.Intrinsic.{Intrinsic}
use Rattle.rule_laws.specs.ir_paths.Paths.{entry_point, has_point, nexts, nexts_in, targets}
use Rattle.rule_laws.specs.ir_paths.Slots.{local_of, promise_of}
use Rattle.rule_laws.specs.ir_paths.Windows.{call_operand, call_result, destroy_label, instr_at, instr_in, is_call_of, is_suspend_of, label_at, points_from, points_in, points_where, resume_label, suspend_of}
use Rattle.rule_laws.specs.ir_paths.declared.point.Point.{Point}
use Rattle.rule_laws.specs.run_step.Step.{fetch, fetch_in, fetch_or, incoming_from, label_of, phis_of}
use Rattle.rule_laws.specs.run_laws.changed.Changed.{operands_of, result_of}

-- ---- instructions

module _ (n : ℕ) where
  pub call_same : (j : Intrinsic) (i : Instr) → is_call_of j (named_instr n i) ≡ is_call_of j i
  call_same j (Instr.Call result must_tail ty (Callee.Intrinsic Intrinsic.CoroBegin) args) = refl
  call_same j _ = refl

  pub operands_same : (i : Instr) → operands_of (named_instr n i) ≡ operands_of i
  operands_same (Instr.Call result must_tail ty (Callee.Intrinsic Intrinsic.CoroBegin) args) = refl
  operands_same _ = refl

  pub operand_same : (i : Instr) (k : ℕ) → call_operand (named_instr n i) k ≡ call_operand i k
  operand_same (Instr.Call result must_tail ty (Callee.Intrinsic Intrinsic.CoroBegin) args) k = refl
  operand_same _ k = refl

  pub result_kept : (i : Instr) → is_call_of Intrinsic.CoroBegin i ≡ false → result_of (named_instr n i) ≡ result_of i
  result_kept (Instr.Call result must_tail ty (Callee.Intrinsic Intrinsic.CoroBegin) args) e = absurd (cc)
  result_kept _ e = refl

  pub call_kept : (i : Instr) → is_call_of Intrinsic.CoroBegin i ≡ false → call_result (named_instr n i) ≡ call_result i
  call_kept (Instr.Call result must_tail ty (Callee.Intrinsic Intrinsic.CoroBegin) args) e = absurd (cc)
  call_kept _ e = refl

  pub result_named : (i : Instr) → is_call_of Intrinsic.CoroBegin i ≡ true → result_of (named_instr n i) ≡ Some n
  result_named (Instr.Call result must_tail ty (Callee.Intrinsic Intrinsic.CoroBegin) args) e = refl
  result_named _ e = absurd (cc)

  -- a call of another intrinsic is as it was
  pub call_back : (j : Intrinsic) (i : Instr) → is_call_of j (named_instr n i) ≡ true → is_call_of j i ≡ true
  call_back j i e = sym (call_same j i) ∙ e

  points_from_same : (t u : Instr → Bool) → ((i : Instr) → t (named_instr n i) ≡ u i) → (block at : ℕ) (is : List Instr) → points_from t block at (map (named_instr n) is) ≡ points_from u block at is
  points_from_same t u h block at [] = refl
  points_from_same t u h block at (i ∷ is) = λ k.
      if h i k then record { block = block; at = at } ∷ points_from_same t u h block (suc at) is k else points_from_same t u h block (suc at) is k

  points_in_same : (t u : Instr → Bool) → ((i : Instr) → t (named_instr n i) ≡ u i) → (block : ℕ) (bs : List Block) → points_in t block (map (named_block n) bs) ≡ points_in u block bs
  points_in_same t u h block [] = refl
  points_in_same t u h block (b ∷ bs) = λ k. points_from_same t u h block 0 b.instrs k ++ points_in_same t u h (suc block) bs k

-- ---- the function

module _ (f : Function) where
  abbrev n : ℕ
  n = length f.names

  abbrev pub g : Function
  g = begin_named f

  pub block_there : (block : ℕ) → slice_get g.blocks block ≡ option_map (named_block n) (slice_get f.blocks block)
  block_there block = slice_get-map (named_block n) f.blocks block

  pub position_same : (label : ℕ) → position_of g label ≡ position_of f label
  position_same label =
      (λ i. unwrap_or (first_same (named_block n) (λ b. b.label == label) (λ b. b.label == label) (λ b. refl) f.blocks i) (length_same (named_block n) f.blocks i))

  pub label_same : (o : Option Block) → label_of (option_map (named_block n) o) ≡ label_of o
  label_same None = refl
  label_same (Some b) = refl

  pub phis_same : (o : Option Block) → phis_of (option_map (named_block n) o) ≡ phis_of o
  phis_same None = refl
  phis_same (Some b) = refl

  pub instr_there : (p : Point) → instr_at g p ≡ option_map (named_instr n) (instr_at f p)
  instr_there p = ap (λ (o : Option Block). instr_in o p.at) (block_there p.block) ∙ on (slice_get f.blocks p.block)
    where
      on : (o : Option Block) → instr_in (option_map (named_block n) o) p.at ≡ option_map (named_instr n) (instr_in o p.at)
      on None = refl
      on (Some b) = slice_get-map (named_instr n) b.instrs p.at

  pub entry_same : (label : ℕ) → entry_point g label ≡ entry_point f label
  entry_same label = λ i. record { block = position_same label i; at = 0 }

  pub nexts_same : (p : Point) → nexts g p ≡ nexts f p
  nexts_same p = ap (nexts_in g p) (block_there p.block) ∙ on (slice_get f.blocks p.block)
    where
      on : (o : Option Block) → nexts_in g p (option_map (named_block n) o) ≡ nexts_in f p o
      on None = refl
      on (Some b) = λ i.
          if nat_lt p.at (length_same (named_instr n) b.instrs i) then record { block = p.block; at = p.at + 1 } ∷ []
          else if p.at == length_same (named_instr n) b.instrs i then map (λ label. entry_same label i) (targets b.term)
          else []

  pub points_same : (t u : Instr → Bool) → ((i : Instr) → t (named_instr n i) ≡ u i) → points_where t g ≡ points_where u f
  points_same t u h = points_in_same n t u h 0 f.blocks

  label_at_same : (k : ℕ) (o : Option Block) → label_at k (option_map (named_block n) o) ≡ label_at k o
  label_at_same k None = refl
  label_at_same k (Some b) = refl

  pub resume_same : (s : Point) → resume_label g s ≡ resume_label f s
  resume_same s = ap (label_at 0) (block_there s.block) ∙ label_at_same 0 (slice_get f.blocks s.block)

  pub destroy_same : (s : Point) → destroy_label g s ≡ destroy_label f s
  destroy_same s = ap (label_at 1) (block_there s.block) ∙ label_at_same 1 (slice_get f.blocks s.block)

  -- what stands at a point of the new function stood there
  pub record Stood (p : Point) (i : Instr) : Type 0 where
    pub old : Instr
    pub stands : instr_at f p ≡ Some old
    pub is : i ≡ named_instr n old

  pub stood : (p : Point) (i : Instr) → instr_at g p ≡ Some i → Stood p i
  stood p i e = on (instr_at f p) refl (sym (instr_there p) ∙ e)
    where
      on : (o : Option Instr) → instr_at f p ≡ o → option_map (named_instr n) o ≡ Some i → Stood p i
      on None d k = absurd (cc)
      on (Some j) d k = let same : named_instr n j ≡ i = cc in record { old = j; stands = d; is = sym same }

  pub stands_now : (p : Point) (i : Instr) → instr_at f p ≡ Some i → instr_at g p ≡ Some (named_instr n i)
  stands_now p i e = instr_there p ∙ ap (option_map (named_instr n)) e

  pub call_at_same : (j : Intrinsic) (p : Point) → is_call_at g j p ≡ is_call_at f j p
  call_at_same j p = ap (passes (is_call_of j)) (instr_there p) ∙ on (instr_at f p)
    where
      on : (o : Option Instr) → passes (is_call_of j) (option_map (named_instr n) o) ≡ passes (is_call_of j) o
      on None = refl
      on (Some i) = call_same n j i

  -- ---- the promise

  abbrev promise_in : Option Instr → Option ℕ
  promise_in o = option_and_then (λ i. local_of (call_operand i 1)) o

  pub promise_same : promise_of g ≡ promise_of f
  promise_same =
      ap (λ (ps : List Point). promise_in (option_and_then (instr_at g) (slice_get ps 0))) (points_same (is_call_of Intrinsic.CoroId) (is_call_of Intrinsic.CoroId) (call_same n Intrinsic.CoroId))
      ∙ by_point (slice_get (points_where (is_call_of Intrinsic.CoroId) f) 0)
    where
      by_instr : (o : Option Instr) → promise_in (option_map (named_instr n) o) ≡ promise_in o
      by_instr None = refl
      by_instr (Some i) = ap local_of (operand_same n i 1)

      by_point : (o : Option Point) → promise_in (option_and_then (instr_at g) o) ≡ promise_in (option_and_then (instr_at f) o)
      by_point None = refl
      by_point (Some p) = ap promise_in (instr_there p) ∙ by_instr (instr_at f p)

  -- ---- the suspend of a save

  pub suspend_same : (k : Point) (i : Instr) → instr_at f k ≡ Some i → is_call_of Intrinsic.CoroBegin i ≡ false → suspend_of g k ≡ suspend_of f k
  suspend_same k i here other =
      ap (λ (o : Option Instr). slice_get (points_where (is_suspend_of (option_and_then call_result o)) g) 0) (stands_now k i here)
      ∙ ap (λ (o : Option ℕ). slice_get (points_where (is_suspend_of o) g) 0) (call_kept n i other)
      ∙ ap (λ (ps : List Point). slice_get ps 0) (points_same (is_suspend_of (call_result i)) (is_suspend_of (call_result i)) (of_token (call_result i)))
      ∙ ap (λ (o : Option Instr). slice_get (points_where (is_suspend_of (option_and_then call_result o)) f) 0) (sym here)
    where
      of_token : (o : Option ℕ) (j : Instr) → is_suspend_of o (named_instr n j) ≡ is_suspend_of o j
      of_token None j = refl
      of_token (Some t) j = λ k. call_same n Intrinsic.CoroSuspend j k && is_local t (operand_same n j 0 k)

  -- ---- what is read

  read_same : (here : Option Instr) (last : Bool) (t : Terminator) → operands_read (fetch_or (option_map (named_instr n) here) last t) ≡ operands_read (fetch_or here last t)
  read_same None true t = refl
  read_same None false t = refl
  read_same (Some i) last t = λ k. if call_same n Intrinsic.CoroEnd i k then [] else operands_same n i k

  pub fetched_same : (p : Point) → operands_read (fetch g p.block p.at) ≡ operands_read (fetch f p.block p.at)
  fetched_same p = ap (λ (o : Option Block). operands_read (fetch_in o p.at)) (block_there p.block) ∙ on (slice_get f.blocks p.block)
    where
      on : (o : Option Block) → operands_read (fetch_in (option_map (named_block n) o) p.at) ≡ operands_read (fetch_in o p.at)
      on None = refl
      on (Some b) =
          (λ k. operands_read (fetch_or (slice_get-map (named_instr n) b.instrs p.at k) (p.at == length_same (named_instr n) b.instrs k) b.term))
          ∙ read_same (slice_get b.instrs p.at) (p.at == length b.instrs) b.term

  -- whether a phi of the block of a label takes the value where a block comes before
  pub taken_same : (v block label : ℕ) → list_any (λ p. is_local v (incoming_from p.incoming (label_of (slice_get g.blocks block)))) (phis_of (slice_get g.blocks (position_of g label))) ≡ list_any (λ p. is_local v (incoming_from p.incoming (label_of (slice_get f.blocks block)))) (phis_of (slice_get f.blocks (position_of f label)))
  taken_same v block label =
      let from : label_of (slice_get g.blocks block) ≡ label_of (slice_get f.blocks block) = ap label_of (block_there block) ∙ label_same (slice_get f.blocks block) in
      let phis : phis_of (slice_get g.blocks (position_of g label)) ≡ phis_of (slice_get f.blocks (position_of f label)) = ap (λ (m : ℕ). phis_of (slice_get g.blocks m)) (position_same label) ∙ ap phis_of (block_there (position_of f label)) ∙ phis_same (slice_get f.blocks (position_of f label)) in
      λ k. list_any (λ p. is_local v (incoming_from p.incoming (from k))) (phis k)

  pub block_back : (block : ℕ) (b : Block) → slice_get g.blocks block ≡ Some b → (c : Block) × ((slice_get f.blocks block ≡ Some c) × (b ≡ named_block n c))
  block_back block b e = on (slice_get f.blocks block) refl (sym (block_there block) ∙ e)
    where
      on : (o : Option Block) → slice_get f.blocks block ≡ o → option_map (named_block n) o ≡ Some b → (c : Block) × ((slice_get f.blocks block ≡ Some c) × (b ≡ named_block n c))
      on None d k = absurd (cc)
      on (Some c) d k = let same : named_block n c ≡ b = cc in (c, (d, sym same))

  pub used_now : (v : ℕ) (p : Point) → IsUsed f v p → IsUsed g v p
  used_now v p (AsOperand h) = AsOperand (subst (λ xs. IsTrue (list_any (is_local v) xs)) (sym (fetched_same p)) h)
  used_now v p (OnEdge b label e at target taken) =
      OnEdge (named_block n b) label (block_there p.block ∙ ap (option_map (named_block n)) e) (at ∙ sym (length_same (named_instr n) b.instrs)) target (taken_same v p.block label ∙ taken)

  pub used_back : (v : ℕ) (p : Point) → IsUsed g v p → IsUsed f v p
  used_back v p (AsOperand h) = AsOperand (subst (λ xs. IsTrue (list_any (is_local v) xs)) (fetched_same p) h)
  used_back v p (OnEdge b label e at target taken) =
      let x = block_back p.block b e in
      let c : Block = x.0 in
      OnEdge c label x.1.0
      (at ∙ ap (λ (y : Block). length y.instrs) x.1.1 ∙ length_same (named_instr n) c.instrs)
      (subst (λ (y : Block). IsTrue (list_any (λ l. l == label) (targets y.term))) x.1.1 target)
      (sym (taken_same v p.block label) ∙ taken)

  -- ---- paths of a value that isn't the new one

  module _ (v : ℕ) (unnamed : (p : Point) (i : Instr) → instr_at f p ≡ Some i → is_call_of Intrinsic.CoroBegin i ≡ true → result_of i ≡ None) (other : (n == v) ≡ false) where
    made_same : (p : Point) → makes g v p ≡ makes f v p
    made_same p = ap (passes (λ i. is_result v (result_of i))) (instr_there p) ∙ on (instr_at f p) refl
      where
        at_instr : (i : Instr) → instr_at f p ≡ Some i → (b : Bool) → is_call_of Intrinsic.CoroBegin i ≡ b → is_result v (result_of (named_instr n i)) ≡ is_result v (result_of i)
        at_instr i e true d = ap (is_result v) (result_named n i d) ∙ other ∙ sym (ap (is_result v) (unnamed p i e d))
        at_instr i e false d = ap (is_result v) (result_kept n i d)

        on : (o : Option Instr) → instr_at f p ≡ o → passes (λ i. is_result v (result_of i)) (option_map (named_instr n) o) ≡ passes (λ i. is_result v (result_of i)) o
        on None e = refl
        on (Some i) e = at_instr i e (is_call_of Intrinsic.CoroBegin i) refl

    stops_same : (p : Point) → stops g true v p ≡ stops f true v p
    stops_same p = λ k. call_at_same Intrinsic.CoroEnd p k || made_same p k

    ahead_now : (last p : Point) → Ahead f (stops f true v) last p → Ahead g (stops g true v) last p
    ahead_now last p Here = Here
    ahead_now last p (Next _ q e edge rest) = Next p q (stops_same p ∙ e) (ap (λ (ps : List Point). has_point ps q) (nexts_same p) ∙ edge) (ahead_now last q rest)

    ahead_back : (last p : Point) → Ahead g (stops g true v) last p → Ahead f (stops f true v) last p
    ahead_back last p Here = Here
    ahead_back last p (Next _ q e edge rest) = Next p q (sym (stops_same p) ∙ e) (sym (ap (λ (ps : List Point). has_point ps q) (nexts_same p)) ∙ edge) (ahead_back last q rest)

    pub dead_back : (p : Point) → IsDead g true v p → IsDead f true v p
    dead_back p dead last path used = dead last (ahead_now last p path) (used_now v last used)

    pub dead_now : (p : Point) → IsDead f true v p → IsDead g true v p
    dead_now p dead last path used = dead last (ahead_back last p path) (used_back v last used)

    dead_at_now : (s : Point) (a b : ℕ) → a ≡ b → IsDeadAt f v s b → IsDeadAt g v s a
    dead_at_now s a b same dead =
        record {
          ahead = subst (IsDead g true v) (sym (entry_same a ∙ ap (entry_point f) same)) (dead_now (entry_point f b) dead.ahead);
          not_taken = λ taken. dead.not_taken (subst (IsTaken f v s.block) same (sym (taken_same v s.block a) ∙ taken));
        }

    pub dead_behind_now : (s : Point) → IsDeadBehind f v s → IsDeadBehind g v s
    dead_behind_now s dead = record { resumed = dead_at_now s (resume_label g s) (resume_label f s) (resume_same s) dead.resumed; destroyed = dead_at_now s (destroy_label g s) (destroy_label f s) (destroy_same s) dead.destroyed }
