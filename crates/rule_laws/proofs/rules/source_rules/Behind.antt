-- What a resumed activation uses of a value is used behind its suspend, as rule K7 says it.
use Rattle.std.proofs.Common.{◌≡◌, inl, inr, ℕ, zero, suc, ◌+◌, ◌<◌, Bool, true, false, List, [], ◌∷◌, length, refl, sym, ap, ◌∙◌, subst, arith}
use Rattle.std.specs.List.{list_any}
use Rattle.std.specs.Prelude.{IsTrue, Some, None, Option, map, nat_lt, slice_get, ◌==◌, ◌||◌, if◌then◌else◌}
use Rattle.rule_uses.specs.Uses.{Use, block_values, local_of, phi_values, use_of, uses_of, values_at, values_in}
use Rattle.ir_laws.proofs.paths.renamed.Fits.{AnInstr, ATerm, Nothing, Stands, stands}
use Rattle.ir_laws.proofs.facts.Truth.{equal_numbers, not_equal}
use Rattle.rule_laws.proofs.rules.renamed.Uses.{AreOfBlock, block_edge, block_unmade, ending_spelt, instr_use, is_target, none_by_phis, of_block, of_phis, operands_spelt, three_kinds, use_at}
use Rattle.ir_laws.proofs.paths.renamed.Uses.{stands_in}
use Rattle.ir_laws.specs.paths.renamed.Regular.{Ahead, AsOperand, Here, IsTaken, IsUsed, Next, OnEdge, is_call_at, makes, operands_read, stops}
use Rattle.ir_laws.specs.facts.renamed.Regular.{is_result, passes}
use Rattle.ir_laws.specs.flow_solver.Paths.{IsListed}
use Rattle.ir_parts.specs.Contents.{ending_operands}
use Rattle.ir_parts.specs.Parts.{instr_place}
use Rattle.ir_laws.specs.ir_model.Names.{is_local, position_of}
use Rattle.ir_laws.specs.ir_model.declared.instr.Incoming.{Incoming}
use Rattle.ir_laws.specs.ir_model.declared.instr.Instr.{Instr}
use Rattle.ir_laws.specs.ir_model.declared.instr.Phi.{Phi}
use Rattle.ir_laws.specs.ir_model.declared.module.Block.{Block}
use Rattle.ir_laws.specs.ir_model.declared.module.Function.{Function}
use Rattle.ir_laws.specs.ir_model.declared.operand.Intrinsic.{Intrinsic}
use Rattle.ir_laws.specs.ir_model.declared.operand.Operand.{Operand}
use Rattle.ir_laws.proofs.ir_paths.Search.{same_point-same}
use Rattle.ir_laws.specs.ir_paths.Paths.{entry_point, has_point, nexts, nexts_in, same_point, targets}
use Rattle.ir_laws.specs.ir_paths.Windows.{end_block, instr_at, instr_in, is_call_of}
use Rattle.ir_laws.specs.ir_paths.declared.point.Point.{Point}
use Rattle.ir_laws.specs.run_step.Step.{Fetched, fetch, incoming_from, label_of, phis_of}
use Rattle.ir_laws.specs.run_laws.changed.Changed.{Each, operands_of, operands_of_term, result_of}
use Rattle.rule_all.specs.rule_window_values.Kept.{InBlock, IsUsedBehind, Next as NextBlock, OnEdge as OnOwnEdge, Own, ReachesBehind, TakesFrom, own_blocks, phis_in}
use Rattle.ir_laws.proofs.paths.source_rules.Behind.{each_listed}

-- ---- phis on the suspend's own edges

record IsAmong {A : Type 0} (test : A → Bool) (xs : List A) : Type 0 where
  one : A
  listed : IsListed one xs
  passes : test one ≡ true

among : {A : Type 0} (test : A → Bool) (xs : List A) → list_any test xs ≡ true → IsAmong test xs
among test [] h = absurd (cc)
among test (x ∷ xs) h = on (test x) refl h (among test xs)
  where
    on : (b : Bool) → test x ≡ b → (b || list_any test xs) ≡ true → (list_any test xs ≡ true → IsAmong test xs) → IsAmong test (x ∷ xs)
    on true e k rest = record { one = x; listed = inl refl; passes = e }
    on false e k rest = let y = rest k in record { one = y.one; listed = inr y.listed; passes = y.passes }

record ComesFrom (xs : List Incoming) (label v : ℕ) : Type 0 where
  incoming : Incoming
  listed : IsListed incoming xs
  from : incoming.from ≡ label
  takes : local_of incoming.value ≡ Some v

local_value : (x : Operand) (v : ℕ) → is_local v x ≡ true → local_of x ≡ Some v
local_value (Operand.Local n) v e = ap Some (sym (equal_numbers v n e))
local_value (Operand.Global n) v e = absurd (cc)
local_value (Operand.Number z) v e = absurd (cc)
local_value Operand.True v e = absurd (cc)
local_value Operand.False v e = absurd (cc)
local_value Operand.Null v e = absurd (cc)
local_value Operand.None v e = absurd (cc)
local_value Operand.Poison v e = absurd (cc)

comes_from : (xs : List Incoming) (label v : ℕ) → is_local v (incoming_from xs label) ≡ true → ComesFrom xs label v
comes_from [] label v e = absurd (cc)
comes_from (x ∷ xs) label v e = on (x.from == label) refl e (comes_from xs label v)
  where
    on : (b : Bool) → (x.from == label) ≡ b → is_local v (if b then x.value else incoming_from xs label) ≡ true → (is_local v (incoming_from xs label) ≡ true → ComesFrom xs label v) → ComesFrom (x ∷ xs) label v
    on true d k rest = record { incoming = x; listed = inl refl; from = equal_numbers x.from label d; takes = local_value x.value v k }
    on false d k rest = let y = rest k in record { incoming = y.incoming; listed = inr y.listed; from = y.from; takes = y.takes }

-- a phi behind an edge takes the value
takes_from : (f : Function) (v from block l : ℕ) → position_of f l ≡ from → (o : Option Block) → slice_get f.blocks block ≡ o → list_any (λ p. is_local v (incoming_from p.incoming l)) (phis_of o) ≡ true → TakesFrom f v from block
takes_from f v from block l there None e h = absurd (cc)
takes_from f v from block l there (Some b) e h =
    let x = among (λ (p : Phi). is_local v (incoming_from p.incoming l)) b.phis h in
    let y = comes_from x.one.incoming l v x.passes in
    record {
      phi = x.one;
      incoming = y.incoming;
      stands = subst (λ (o : Option Block). IsListed x.one (phis_in o)) (sym e) x.listed;
      comes = y.listed;
      is_from = ap (position_of f) y.from ∙ there;
      takes = y.takes;
    }

-- ---- paths behind the suspend

module _ (func : ℕ) (f : Function) (s : Point) (v : ℕ) (no_phi : (block : ℕ) → Each (λ p. p.result ≡ v → ⊥) (phis_of (slice_get f.blocks block))) (labels : (k : ℕ) (b : Block) → slice_get f.blocks k ≡ Some b → position_of f b.label ≡ k) (end_first : is_call_at f Intrinsic.CoroEnd (record { block = end_block f; at = 0 }) ≡ true) where
  -- a path leads to the point from one of the suspend's own edges, and nothing on it makes the value or is the end
  pub record ComesTo (p : Point) : Type 0 where
    pub reaches : ReachesBehind f s v p.block
    pub unmade : (j : ℕ) → j < p.at → makes f v (record { block = p.block; at = j }) ≡ false
    pub front : p.block ≡ end_block f → p.at ≡ 0

  not_end : (p : Point) → ComesTo p → is_call_at f Intrinsic.CoroEnd p ≡ false → p.block ≡ end_block f → ⊥
  not_end p h other e =
      let at_front : p.at ≡ 0 = h.front e in
      let same : p ≡ record { block = end_block f; at = 0 } = (λ k. record { block = e k; at = at_front k }) in
      let t : true ≡ false = sym end_first ∙ sym (ap (is_call_at f Intrinsic.CoroEnd) same) ∙ other in
      absurd (cc)

  left_false : (a b : Bool) → (a || b) ≡ false → a ≡ false
  left_false true b e = absurd (cc)
  left_false false b e = refl

  right_false : (a b : Bool) → (a || b) ≡ false → b ≡ false
  right_false true b e = absurd (cc)
  right_false false b e = e

  below : (j n : ℕ) → j < n + 1 → (j ≡ n → ⊥) → j < n
  below j n lt ne = omega (arith, ne)

  step_behind : (p q : Point) → ComesTo p → stops f true v p ≡ false → IsTrue (has_point (nexts f p) q) → ComesTo q
  step_behind p q h none edge = on (slice_get f.blocks p.block) refl edge
    where
      next : Point
      next = record { block = p.block; at = p.at + 1 }

      other : is_call_at f Intrinsic.CoroEnd p ≡ false
      other = left_false (is_call_at f Intrinsic.CoroEnd p) (makes f v p) none

      made : makes f v p ≡ false
      made = right_false (is_call_at f Intrinsic.CoroEnd p) (makes f v p) none

      earlier : (j : ℕ) → j < p.at + 1 → (b : Bool) → (j == p.at) ≡ b → makes f v (record { block = p.block; at = j }) ≡ false
      earlier j lt true e = ap (λ (n : ℕ). makes f v (record { block = p.block; at = n })) (equal_numbers j p.at e) ∙ made
      earlier j lt false e = h.unmade j (below j p.at lt (not_equal j p.at e))

      first : (b : Bool) → IsTrue (b || false) → b ≡ true
      first true e = refl
      first false e = absurd (cc)

      in_block : IsTrue (has_point (next ∷ []) q) → ComesTo q
      in_block e = subst ComesTo (sym (same_point-same q next (first (same_point q next) e))) (record { reaches = h.reaches; unmade = λ j lt. earlier j lt (j == p.at) refl; front = λ d. absurd (not_end p h other d) })

      out : (b : Block) → slice_get f.blocks p.block ≡ Some b → p.at ≡ length b.instrs → IsTrue (has_point (map (entry_point f) (targets b.term)) q) → ComesTo q
      out b e at k =
          let x = is_target f (targets b.term) q k in
          subst ComesTo (sym x.point)
          (record {
            reaches = NextBlock p.block (position_of f x.label) h.reaches (block_unmade f v no_phi p.block b e (λ j lt. h.unmade j (subst (λ (n : ℕ). j < n) (sym at) lt))) (not_end p h other) (block_edge f p.block b x.label e x.listed);
            unmade = λ j lt. absurd (omega arith);
            front = λ d. refl;
          })

      last : (b : Block) → slice_get f.blocks p.block ≡ Some b → (t : Bool) → (p.at == length b.instrs) ≡ t → IsTrue (has_point (if t then map (entry_point f) (targets b.term) else []) q) → ComesTo q
      last b e true d k = out b e (equal_numbers p.at (length b.instrs) d) k
      last b e false d k = absurd (cc)

      either : (b : Block) → slice_get f.blocks p.block ≡ Some b → (t : Bool) → IsTrue (has_point (if t then next ∷ [] else if p.at == length b.instrs then map (entry_point f) (targets b.term) else []) q) → ComesTo q
      either b e true k = in_block k
      either b e false k = last b e (p.at == length b.instrs) refl k

      on : (o : Option Block) → slice_get f.blocks p.block ≡ o → IsTrue (has_point (nexts_in f p o) q) → ComesTo q
      on None e k = absurd (cc)
      on (Some b) e k = either b e (nat_lt p.at (length b.instrs)) k

  walked : (last p : Point) → ComesTo p → Ahead f (stops f true v) last p → ComesTo last
  walked last p h Here = h
  walked last p h (Next _ q e edge rest) = walked last q (step_behind p q h e edge) rest

  -- ---- a use at a point

  abbrev IsOne : Use → Type 0
  IsOne u = IsListed u (uses_of func f)

  uses_in : (k : ℕ) (b : Block) → slice_get f.blocks k ≡ Some b → AreOfBlock IsOne f func k b
  uses_in k b e = three_kinds IsOne f func k b (of_block IsOne f func k b (each_listed (uses_of func f) (uses_of func f) (λ u h. h)) e)

  phis_unmade : (k : ℕ) (b : Block) → slice_get f.blocks k ≡ Some b → IsListed v (phi_values b) → ⊥
  phis_unmade k b e = none_by_phis (λ u. Unit {0}) v [] b.phis (λ x. x) (subst (λ (o : Option Block). Each (λ p. p.result ≡ v → ⊥) (phis_of o)) e (no_phi k))

  unmade_in : (p : Point) (b : Block) → slice_get f.blocks p.block ≡ Some b → ComesTo p → (j : ℕ) (x : Instr) → j < p.at → slice_get b.instrs j ≡ Some x → is_result v (result_of x) ≡ false
  unmade_in p b e h j x lt d = sym (ap (λ (o : Option Block). passes (λ i. is_result v (result_of i)) (instr_in o j)) e ∙ ap (passes (λ i. is_result v (result_of i))) d) ∙ h.unmade j lt

  values_unmade : (p : Point) (b : Block) → slice_get f.blocks p.block ≡ Some b → p.at ≡ length b.instrs → ComesTo p → IsListed v (values_at f p.block) → ⊥
  values_unmade p b e at h = block_unmade f v no_phi p.block b e (λ j lt. h.unmade j (subst (λ (n : ℕ). j < n) (sym at) lt))

  by_instr : (p : Point) (i : Instr) → instr_at f p ≡ Some i → ComesTo p → is_call_of Intrinsic.CoroEnd i ≡ false → IsTrue (list_any (is_local v) (operands_of i)) → IsUsedBehind func f s v
  by_instr p i e h other used =
      let x = stands_in f p i e in
      let u = instr_use IsOne v func p.block (length x.block.phis) (phi_values x.block) x.block.instrs p.at i (uses_in p.block x.block x.got).instrs x.stands (subst (λ (xs : List Operand). IsTrue (list_any (is_local v) xs)) (sym (operands_spelt i)) used) (phis_unmade p.block x.block x.got) (unmade_in p x.block x.got h) in
      InBlock (use_of u.place p.block u.before v) u.listed refl h.reaches u.unmade (not_end p h (ap (passes (is_call_of Intrinsic.CoroEnd)) e ∙ other))

  by_term : (p : Point) (b : Block) → slice_get f.blocks p.block ≡ Some b → p.at ≡ length b.instrs → instr_at f p ≡ None → ComesTo p → IsTrue (list_any (is_local v) (operands_of_term b.term)) → IsUsedBehind func f s v
  by_term p b e at gone h used =
      InBlock (use_of (instr_place func p.block (length b.phis + length b.instrs)) p.block (block_values b) v)
      (use_at IsOne v (instr_place func p.block (length b.phis + length b.instrs)) p.block (block_values b) (ending_operands b.term) (uses_in p.block b e).term (subst (λ (xs : List Operand). IsTrue (list_any (is_local v) xs)) (sym (ending_spelt b.term)) used))
      refl h.reaches
      (λ l. values_unmade p b e at h (subst (λ (o : Option Block). IsListed v (values_in o)) (sym e) l))
      (not_end p h (ap (passes (is_call_of Intrinsic.CoroEnd)) gone))

  by_place : (p : Point) (here : Fetched) → Stands f p here → ComesTo p → IsTrue (list_any (is_local v) (operands_read here)) → IsUsedBehind func f s v
  by_place p _ Nothing h used = absurd (cc)
  by_place p _ (AnInstr i e) h used = on (is_call_of Intrinsic.CoroEnd i) refl used
    where
      on : (b : Bool) → is_call_of Intrinsic.CoroEnd i ≡ b → IsTrue (list_any (is_local v) (if b then [] else operands_of i)) → IsUsedBehind func f s v
      on true d k = absurd (cc)
      on false d k = by_instr p i e h d k
  by_place p _ (ATerm b e at gone) h used = by_term p b e at gone h used

  by_edge : (p : Point) (b : Block) (label : ℕ) → slice_get f.blocks p.block ≡ Some b → p.at ≡ length b.instrs → instr_at f p ≡ None → ComesTo p → IsTaken f v p.block label → IsUsedBehind func f s v
  by_edge p b label e at gone h taken = on (slice_get f.blocks (position_of f label)) refl taken
    where
      from : ℕ
      from = label_of (slice_get f.blocks p.block)

      there : position_of f from ≡ p.block
      there = ap (λ (o : Option Block). position_of f (label_of o)) e ∙ labels p.block b e

      on : (o : Option Block) → slice_get f.blocks (position_of f label) ≡ o → IsTrue (list_any (λ q. is_local v (incoming_from q.incoming (label_of (slice_get f.blocks p.block)))) (phis_of o)) → IsUsedBehind func f s v
      on None d k = absurd (cc)
      on (Some c) d k =
          let u = of_phis IsOne f func v (label_of (slice_get f.blocks p.block)) (position_of f label) 0 c.phis (uses_in (position_of f label) c d).phis k in
          InBlock (use_of u.0 (position_of f (label_of (slice_get f.blocks p.block))) (values_at f (position_of f (label_of (slice_get f.blocks p.block)))) v) u.1 refl
          (subst (ReachesBehind f s v) (sym there) h.reaches)
          (λ l. values_unmade p b e at h (subst (λ (n : ℕ). IsListed v (values_at f n)) there l))
          (λ same. not_end p h (ap (passes (is_call_of Intrinsic.CoroEnd)) gone) (sym there ∙ same))

  past : (xs : List Instr) (n : ℕ) → n ≡ length xs → slice_get xs n ≡ None
  past [] n e = refl
  past (x ∷ xs) zero e = absurd (omega (arith, e))
  past (x ∷ xs) (suc n) e = past xs n (omega (arith, e))

  use_at_point : (p : Point) → ComesTo p → IsUsed f v p → IsUsedBehind func f s v
  use_at_point p h (AsOperand used) = by_place p (fetch f p.block p.at) (stands f p) h used
  use_at_point p h (OnEdge b label e at target taken) = by_edge p b label e at (ap (λ (o : Option Block). instr_in o p.at) e ∙ past b.instrs p.at at) h taken

  -- behind the own edge of a label
  pub used_ahead : (label : ℕ) → IsListed (position_of f label) (own_blocks f s) → (last : Point) → Ahead f (stops f true v) last (entry_point f label) → IsUsed f v last → IsUsedBehind func f s v
  used_ahead label own last path used =
      use_at_point last (walked last (entry_point f label) (record { reaches = Own (position_of f label) own; unmade = λ j lt. absurd (omega arith); front = λ e. refl }) path) used

  pub used_on_edge : (label : ℕ) (b : Block) → slice_get f.blocks s.block ≡ Some b → IsListed (position_of f label) (own_blocks f s) → IsTaken f v s.block label → IsUsedBehind func f s v
  used_on_edge label b e own taken =
      let there : position_of f (label_of (slice_get f.blocks s.block)) ≡ s.block = ap (λ (o : Option Block). position_of f (label_of o)) e ∙ labels s.block b e in
      OnOwnEdge (position_of f label) own (takes_from f v s.block (position_of f label) (label_of (slice_get f.blocks s.block)) there (slice_get f.blocks (position_of f label)) refl taken)
