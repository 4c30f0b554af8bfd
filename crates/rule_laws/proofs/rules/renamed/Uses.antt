-- Where no use is undefined (rule F2), no path from the entry leads to a use of a value that is made by an instruction but behind that.
use Rattle.std.proofs.Common.{◌≡◌, inl, inr, ℕ, zero, suc, ◌+◌, ◌<◌, Bool, true, false, List, [], ◌∷◌, ◌++◌, length, refl, sym, ap, ◌∙◌, subst, arith}
use Rattle.std.specs.List.{list_any}
use Rattle.std.specs.Prelude.{IsTrue, Some, None, Option, map, nat_lt, option_to_list, slice_get, ◌==◌, ◌||◌, if◌then◌else◌}
use Rattle.flow_blocks.specs.Edges.{block_edges, edges_of_blocks, edges_out}
use Rattle.ir_laws.specs.ir_base.declared.outcome.Place.{Place}
use Rattle.rule_uses.specs.Undefined.{Entry, Here as UndefinedHere, IsFirstUndefined, IsUndefined, Later, Next as NextBlock, Nowhere as NoneUndefined, ReachesWithout, params_of}
use Rattle.rule_uses.specs.Uses.{Use, block_uses, block_values, blocks_uses, incoming_use, incoming_uses, instr_uses, local_of, made_by_instrs, made_by_phis, phi_uses, phi_values, use_of, uses_at, uses_of, values_at, values_in}
use Rattle.ir_laws.proofs.paths.renamed.Fits.{AnInstr, ATerm, Nothing, Stands, stands}
use Rattle.ir_laws.proofs.facts.Truth.{equal_numbers, itself, not_equal}
use Rattle.ir_laws.proofs.facts.Lists.{get_within}
use Rattle.rule_laws.proofs.rules.renamed.Outside.{each_left, each_right}
use Rattle.ir_laws.specs.paths.renamed.Regular.{Ahead, AsOperand, Here, IsDead, IsTaken, IsUsed, Next, OnEdge, entry, makes, operands_read}
use Rattle.ir_laws.specs.facts.renamed.Regular.{is_result, passes}
use Rattle.ir_laws.specs.flow_solver.Paths.{IsListed}
use Rattle.ir_parts.specs.Contents.{ending_operands, instr_operands, result_of as part_result}
use Rattle.ir_parts.specs.Parts.{instr_place}
use Rattle.ir_laws.specs.ir_model.Names.{is_local, position_of}
use Rattle.ir_laws.specs.ir_model.declared.instr.Incoming.{Incoming}
use Rattle.ir_laws.specs.ir_model.declared.instr.Instr.{Instr}
use Rattle.ir_laws.specs.ir_model.declared.instr.Phi.{Phi}
use Rattle.ir_laws.specs.ir_model.declared.instr.Terminator.{Terminator}
use Rattle.ir_laws.specs.ir_model.declared.module.Block.{Block}
use Rattle.ir_laws.specs.ir_model.declared.module.Function.{Function}
use Rattle.ir_laws.specs.ir_model.declared.operand.Callee.{Callee}
use Rattle.ir_laws.specs.ir_model.declared.operand.Intrinsic.{Intrinsic}
use Rattle.ir_laws.specs.ir_model.declared.operand.Operand.{Operand}
use Rattle.ir_laws.proofs.ir_paths.Search.{same_point-same}
use Rattle.ir_laws.specs.ir_paths.Paths.{entry_point, has_point, nexts, nexts_in, same_point, targets}
use Rattle.ir_laws.specs.ir_paths.Windows.{instr_at, instr_in, is_call_of}
use Rattle.ir_laws.specs.ir_paths.declared.point.Point.{Point}
use Rattle.ir_laws.specs.run_step.Step.{Fetched, fetch, incoming_from, label_of, phis_of}
use Rattle.ir_laws.specs.run_laws.changed.Changed.{Each, operands_of, operands_of_term, result_of}
use Rattle.ir_laws.proofs.paths.renamed.Uses.{stands_in}
use Rattle.ir_laws.proofs.paths.source_rules.Locals.{listed_left, listed_right}

-- ---- two spellings of operands and results

pub result_spelt : (i : Instr) → part_result i ≡ result_of i
result_spelt (Instr.Binary name op flags ty a b) = refl
result_spelt (Instr.Icmp name pred ty a b) = refl
result_spelt (Instr.Select name x a b) = refl
result_spelt (Instr.Cast name op nneg arg to) = refl
result_spelt (Instr.Alloca name ty align) = refl
result_spelt (Instr.Load name ty p align) = refl
result_spelt (Instr.Store arg p align) = refl
result_spelt (Instr.Gep name inbounds ty base indices) = refl
result_spelt (Instr.Call result must_tail ty callee args) = refl

pub operands_spelt : (i : Instr) → instr_operands i ≡ operands_of i
operands_spelt (Instr.Binary name op flags ty a b) = refl
operands_spelt (Instr.Icmp name pred ty a b) = refl
operands_spelt (Instr.Select name x a b) = refl
operands_spelt (Instr.Cast name op nneg arg to) = refl
operands_spelt (Instr.Alloca name ty align) = refl
operands_spelt (Instr.Load name ty p align) = refl
operands_spelt (Instr.Store arg p align) = refl
operands_spelt (Instr.Gep name inbounds ty base indices) = refl
operands_spelt (Instr.Call result must_tail ty (Callee.Named n) args) = refl
operands_spelt (Instr.Call result must_tail ty (Callee.Allocator a) args) = refl
operands_spelt (Instr.Call result must_tail ty (Callee.Intrinsic i) args) = refl
operands_spelt (Instr.Call result must_tail ty (Callee.Local n) args) = refl

pub ending_spelt : (t : Terminator) → ending_operands t ≡ operands_of_term t
ending_spelt (Terminator.Jump label) = refl
ending_spelt (Terminator.Branch x a b) = refl
ending_spelt (Terminator.Switch arg default cases) = refl
ending_spelt (Terminator.Ret None) = refl
ending_spelt (Terminator.Ret (Some arg)) = refl
ending_spelt Terminator.Unreachable = refl

-- ---- uses that are listed

pub none_undefined : (f : Function) (us : List Use) (o : Option Place) → IsFirstUndefined f us o → o ≡ None → Each (λ u. IsUndefined f u → ⊥) us
none_undefined f _ _ NoneUndefined e = tt
none_undefined f _ _ (UndefinedHere u us h) e = absurd (cc)
none_undefined f _ _ (Later u us found h rest) e = (h, none_undefined f us found rest e)

module _ (Q : Use → Type 0) (v : ℕ) where
  pub use_at : (place : Place) (block : ℕ) (before : List ℕ) (xs : List Operand) → Each Q (uses_at place block before xs) → IsTrue (list_any (is_local v) xs) → Q (use_of place block before v)
  use_at place block before [] h e = absurd (cc)
  use_at place block before (Operand.Local k ∷ xs) h e = on (v == k) refl (use_at place block before xs h.1) e
    where
      on : (b : Bool) → (v == k) ≡ b → (IsTrue (list_any (is_local v) xs) → Q (use_of place block before v)) → IsTrue (b || list_any (is_local v) xs) → Q (use_of place block before v)
      on true d rest k2 = subst (λ (n : ℕ). Q (use_of place block before n)) (sym (equal_numbers v k d)) h.0
      on false d rest k2 = rest k2
  use_at place block before (Operand.Global n ∷ xs) h e = use_at place block before xs h e
  use_at place block before (Operand.Number z ∷ xs) h e = use_at place block before xs h e
  use_at place block before (Operand.True ∷ xs) h e = use_at place block before xs h e
  use_at place block before (Operand.False ∷ xs) h e = use_at place block before xs h e
  use_at place block before (Operand.Null ∷ xs) h e = use_at place block before xs h e
  use_at place block before (Operand.None ∷ xs) h e = use_at place block before xs h e
  use_at place block before (Operand.Poison ∷ xs) h e = use_at place block before xs h e

  -- a use behind what doesn't make the value
  pub record IsOpenUse (block : ℕ) : Type 0 where
    pub place : Place
    pub before : List ℕ
    pub listed : Q (use_of place block before v)
    pub unmade : IsListed v before → ⊥

  -- one instruction more that doesn't make it
  still_unmade : (before : List ℕ) (i : Instr) → is_result v (result_of i) ≡ false → (IsListed v before → ⊥) → IsListed v (option_to_list (part_result i) ++ before) → ⊥
  still_unmade before i none old = on (part_result i) (ap (is_result v) (result_spelt i) ∙ none)
    where
      on : (o : Option ℕ) → is_result v o ≡ false → IsListed v (option_to_list o ++ before) → ⊥
      on None e h = old h
      on (Some w) e (inl same) = let t : true ≡ false = sym (itself w) ∙ ap (λ (n : ℕ). w == n) (sym same) ∙ e in absurd (cc)
      on (Some w) e (inr h) = old h

  pub instr_use : (func block at : ℕ) (before : List ℕ) (is : List Instr) (k : ℕ) (i : Instr) → Each Q (instr_uses func block at before is) → slice_get is k ≡ Some i → IsTrue (list_any (is_local v) (instr_operands i)) → (IsListed v before → ⊥) → ((j : ℕ) (x : Instr) → j < k → slice_get is j ≡ Some x → is_result v (result_of x) ≡ false) → IsOpenUse block
  instr_use func block at before [] k i h e used old none = absurd (cc)
  instr_use func block at before (x ∷ is) zero i h e used old none =
      let same : x ≡ i = cc in
      record {
        place = instr_place func block at;
        before = before;
        listed = use_at (instr_place func block at) block before (instr_operands x) (each_left Q (uses_at (instr_place func block at) block before (instr_operands x)) (instr_uses func block (at + 1) (option_to_list (part_result x) ++ before) is) h) (subst (λ (y : Instr). IsTrue (list_any (is_local v) (instr_operands y))) (sym same) used);
        unmade = old;
      }
  instr_use func block at before (x ∷ is) (suc k) i h e used old none =
      instr_use func block (at + 1) (option_to_list (part_result x) ++ before) is k i
      (each_right Q (uses_at (instr_place func block at) block before (instr_operands x)) (instr_uses func block (at + 1) (option_to_list (part_result x) ++ before) is) h)
      e used (still_unmade before x (none 0 x (omega arith) refl) old) (λ j y lt d. none (suc j) y (omega arith) d)

  -- what none of the instructions makes
  pub none_made : (before : List ℕ) (is : List Instr) → (IsListed v before → ⊥) → ((j : ℕ) (x : Instr) → slice_get is j ≡ Some x → is_result v (result_of x) ≡ false) → IsListed v (made_by_instrs before is) → ⊥
  none_made before [] old none = old
  none_made before (x ∷ is) old none = none_made (option_to_list (part_result x) ++ before) is (still_unmade before x (none 0 x refl) old) (λ j y d. none (suc j) y d)

  pub none_by_phis : (before : List ℕ) (ps : List Phi) → (IsListed v before → ⊥) → Each (λ p. p.result ≡ v → ⊥) ps → IsListed v (made_by_phis before ps) → ⊥
  none_by_phis before [] old none = old
  none_by_phis before (p ∷ ps) old none = none_by_phis (p.result ∷ before) ps more none.1
    where
      more : IsListed v (p.result ∷ before) → ⊥
      more (inl same) = none.0 (sym same)
      more (inr h) = old h

edge_out : (f : Function) (from label : ℕ) (ts : List ℕ) → IsListed label ts → IsListed {X = ℕ × ℕ} (from, position_of f label) (map (λ to. (from, to)) (map (position_of f) ts))
edge_out f from label [] h = absurd h
edge_out f from label (t ∷ ts) (inl e) = inl (λ k. (from, position_of f (e k)))
edge_out f from label (t ∷ ts) (inr h) = inr (edge_out f from label ts h)

edges_in : (f : Function) (at : ℕ) (bs : List Block) (k : ℕ) (b : Block) (label : ℕ) → slice_get bs k ≡ Some b → IsListed label (targets b.term) → IsListed {X = ℕ × ℕ} (at + k, position_of f label) (edges_of_blocks f at bs)
edges_in f at [] k b label e h = absurd (cc)
edges_in f at (c ∷ bs) zero b label e h =
    let same : at ≡ at + 0 = omega arith in
    let is_one : b ≡ c = cc in
    listed_left {A = ℕ × ℕ} (at + 0, position_of f label) (edges_out f at c) (edges_of_blocks f (at + 1) bs)
    (subst (λ (n : ℕ). IsListed {X = ℕ × ℕ} (n, position_of f label) (edges_out f at c)) same (subst (λ (x : Block). IsListed {X = ℕ × ℕ} (at, position_of f label) (edges_out f at x)) is_one (edge_out f at label (targets b.term) h)))
edges_in f at (c ∷ bs) (suc k) b label e h =
    let same : at + 1 + k ≡ at + suc k = omega arith in
    listed_right {A = ℕ × ℕ} (at + suc k, position_of f label) (edges_out f at c) (edges_of_blocks f (at + 1) bs)
    (subst (λ (n : ℕ). IsListed {X = ℕ × ℕ} (n, position_of f label) (edges_of_blocks f (at + 1) bs)) same (edges_in f (at + 1) bs k b label e h))

pub block_edge : (f : Function) (k : ℕ) (b : Block) (label : ℕ) → slice_get f.blocks k ≡ Some b → IsListed label (targets b.term) → IsListed {X = ℕ × ℕ} (k, position_of f label) (block_edges f)
unfolding block_edges
block_edge f k b label e h = let same : 0 + k ≡ k = omega arith in subst (λ (n : ℕ). IsListed {X = ℕ × ℕ} (n, position_of f label) (edges_of_blocks f 0 f.blocks)) same (edges_in f 0 f.blocks k b label e h)

-- a label to whose block an edge leads
pub record IsTarget (f : Function) (ts : List ℕ) (q : Point) : Type 0 where
  pub label : ℕ
  pub listed : IsListed label ts
  pub point : q ≡ entry_point f label

pub is_target : (f : Function) (ts : List ℕ) (q : Point) → IsTrue (has_point (map (entry_point f) ts) q) → IsTarget f ts q
is_target f [] q h = absurd (cc)
is_target f (t ∷ ts) q h = on (same_point q (entry_point f t)) refl (is_target f ts q) h
  where
    on : (b : Bool) → same_point q (entry_point f t) ≡ b → (IsTrue (has_point (map (entry_point f) ts) q) → IsTarget f ts q) → IsTrue (b || has_point (map (entry_point f) ts) q) → IsTarget f (t ∷ ts) q
    on true e rest k = record { label = t; listed = inl refl; point = same_point-same q (entry_point f t) e }
    on false e rest k = let x = rest k in record { label = x.label; listed = inr x.listed; point = x.point }

-- a path leads from the entry to a point, and nothing on it makes the value
pub record ReachesPoint (f : Function) (v : ℕ) (p : Point) : Type 0 where
  reaches : ReachesWithout f v p.block
  unmade : (j : ℕ) → j < p.at → makes f v (record { block = p.block; at = j }) ≡ false

module _ (f : Function) (v : ℕ) (no_phi : (block : ℕ) → Each (λ p. p.result ≡ v → ⊥) (phis_of (slice_get f.blocks block))) where
  -- of a block whose instructions don't make the value
  pub block_unmade : (k : ℕ) (b : Block) → slice_get f.blocks k ≡ Some b → ((j : ℕ) → j < length b.instrs → makes f v (record { block = k; at = j }) ≡ false) → IsListed v (values_at f k) → ⊥
  block_unmade k b e none h =
      none_made (λ u. Unit {0}) v (phi_values b) b.instrs
      (none_by_phis (λ u. Unit {0}) v [] b.phis (λ x. x) (subst (λ (o : Option Block). Each (λ p. p.result ≡ v → ⊥) (phis_of o)) e (no_phi k)))
      (λ j x d. sym (ap (λ (o : Option Block). passes (λ i. is_result v (result_of i)) (instr_in o j)) e ∙ ap (passes (λ i. is_result v (result_of i))) d) ∙ none j (get_within b.instrs j x d))
      (subst (λ (o : Option Block). IsListed v (values_in o)) e h)

  step_reaches : (p q : Point) → ReachesPoint f v p → makes f v p ≡ false → IsTrue (has_point (nexts f p) q) → ReachesPoint f v q
  step_reaches p q h made edge = on (slice_get f.blocks p.block) refl edge
    where
      next : Point
      next = record { block = p.block; at = p.at + 1 }

      earlier : (j : ℕ) → j < p.at + 1 → (b : Bool) → (j == p.at) ≡ b → makes f v (record { block = p.block; at = j }) ≡ false
      earlier j lt true e = ap (λ (n : ℕ). makes f v (record { block = p.block; at = n })) (equal_numbers j p.at e) ∙ made
      earlier j lt false e = let ne : j ≡ p.at → ⊥ = not_equal j p.at e in h.unmade j (below j lt ne)
        where
          below : (j : ℕ) → j < p.at + 1 → (j ≡ p.at → ⊥) → j < p.at
          below j lt ne = omega (arith, ne)

      in_block : IsTrue (has_point (next ∷ []) q) → ReachesPoint f v q
      in_block e = subst (ReachesPoint f v) (sym (same_point-same q next (one e))) (record { reaches = h.reaches; unmade = λ j lt. earlier j lt (j == p.at) refl })
        where
          first : (b : Bool) → IsTrue (b || false) → b ≡ true
          first true e = refl
          first false e = absurd (cc)

          one : IsTrue (has_point (next ∷ []) q) → same_point q next ≡ true
          one e = first (same_point q next) e

      out : (b : Block) → slice_get f.blocks p.block ≡ Some b → p.at ≡ length b.instrs → IsTrue (has_point (map (entry_point f) (targets b.term)) q) → ReachesPoint f v q
      out b e at k =
          let x = is_target f (targets b.term) q k in
          subst (ReachesPoint f v) (sym x.point)
          (record {
            reaches = NextBlock p.block (position_of f x.label) h.reaches (block_unmade p.block b e (λ j lt. h.unmade j (subst (λ (n : ℕ). j < n) (sym at) lt))) (block_edge f p.block b x.label e x.listed);
            unmade = λ j lt. absurd (omega arith);
          })

      last : (b : Block) → slice_get f.blocks p.block ≡ Some b → (t : Bool) → (p.at == length b.instrs) ≡ t → IsTrue (has_point (if t then map (entry_point f) (targets b.term) else []) q) → ReachesPoint f v q
      last b e true d k = out b e (equal_numbers p.at (length b.instrs) d) k
      last b e false d k = absurd (cc)

      either : (b : Block) → slice_get f.blocks p.block ≡ Some b → (t : Bool) → IsTrue (has_point (if t then next ∷ [] else if p.at == length b.instrs then map (entry_point f) (targets b.term) else []) q) → ReachesPoint f v q
      either b e true k = in_block k
      either b e false k = last b e (p.at == length b.instrs) refl k

      on : (o : Option Block) → slice_get f.blocks p.block ≡ o → IsTrue (has_point (nexts_in f p o) q) → ReachesPoint f v q
      on None e k = absurd (cc)
      on (Some b) e k = either b e (nat_lt p.at (length b.instrs)) k

  pub walked : (last p : Point) → ReachesPoint f v p → Ahead f (makes f v) last p → ReachesPoint f v last
  walked last p h Here = h
  walked last p h (Next _ q e edge rest) = walked last q (step_reaches p q h e edge) rest

-- ---- a use at a point

module _ (Q : Use → Type 0) (f : Function) (func v label : ℕ) where
  -- a use by a phi, at the end of the block of a label
  abbrev AtEnd : Place → Type 0
  AtEnd place = Q (use_of place (position_of f label) (values_at f (position_of f label)) v)

  of_value : (place : Place) (x : Incoming) (y : Operand) (rest : List Use) → Each Q (map (incoming_use f place x) (option_to_list (local_of y)) ++ rest) → IsTrue (is_local v y) → Q (incoming_use f place x v)
  of_value place x (Operand.Local n) rest h e = subst (λ (k : ℕ). Q (incoming_use f place x k)) (sym (equal_numbers v n e)) h.0
  of_value place x (Operand.Global n) rest h e = absurd (cc)
  of_value place x (Operand.Number z) rest h e = absurd (cc)
  of_value place x Operand.True rest h e = absurd (cc)
  of_value place x Operand.False rest h e = absurd (cc)
  of_value place x Operand.Null rest h e = absurd (cc)
  of_value place x Operand.None rest h e = absurd (cc)
  of_value place x Operand.Poison rest h e = absurd (cc)

  of_incoming : (place : Place) (xs : List Incoming) → Each Q (incoming_uses f place xs) → IsTrue (is_local v (incoming_from xs label)) → AtEnd place
  of_incoming place [] h e = absurd (cc)
  of_incoming place (x ∷ xs) h e = on (x.from == label) refl (of_incoming place xs (each_right Q (map (incoming_use f place x) (option_to_list (local_of x.value))) (incoming_uses f place xs) h)) e
    where
      on : (b : Bool) → (x.from == label) ≡ b → (IsTrue (is_local v (incoming_from xs label)) → AtEnd place) → IsTrue (is_local v (if b then x.value else incoming_from xs label)) → AtEnd place
      on true d rest k =
          subst (λ (l : ℕ). Q (use_of place (position_of f l) (values_at f (position_of f l)) v)) (equal_numbers x.from label d) (of_value place x x.value (incoming_uses f place xs) h k)
      on false d rest k = rest k

  pub of_phis : (block at : ℕ) (ps : List Phi) → Each Q (phi_uses f func block at ps) → IsTrue (list_any (λ p. is_local v (incoming_from p.incoming label)) ps) → (place : Place) × AtEnd place
  of_phis block at [] h e = absurd (cc)
  of_phis block at (p ∷ ps) h e = on (is_local v (incoming_from p.incoming label)) refl (of_phis block (at + 1) ps (each_right Q (incoming_uses f (instr_place func block at) p.incoming) (phi_uses f func block (at + 1) ps) h)) e
    where
      on : (b : Bool) → is_local v (incoming_from p.incoming label) ≡ b → (IsTrue (list_any (λ q. is_local v (incoming_from q.incoming label)) ps) → (place : Place) × AtEnd place) → IsTrue (b || list_any (λ q. is_local v (incoming_from q.incoming label)) ps) → (place : Place) × AtEnd place
      on true d rest k = (instr_place func block at, of_incoming (instr_place func block at) p.incoming (each_left Q (incoming_uses f (instr_place func block at) p.incoming) (phi_uses f func block (at + 1) ps) h) d)
      on false d rest k = rest k

module _ (Q : Use → Type 0) (f : Function) (func : ℕ) where
  in_block_uses : (at : ℕ) (bs : List Block) (k : ℕ) (b : Block) → Each Q (blocks_uses f func at bs) → slice_get bs k ≡ Some b → Each Q (block_uses f func (at + k) b)
  in_block_uses at [] k b h e = absurd (cc)
  in_block_uses at (c ∷ bs) zero b h e =
      let same : at ≡ at + 0 = omega arith in
      let is_one : c ≡ b = cc in
      subst (λ (n : ℕ). Each Q (block_uses f func n b)) same (subst (λ (x : Block). Each Q (block_uses f func at x)) is_one (each_left Q (block_uses f func at c) (blocks_uses f func (at + 1) bs) h))
  in_block_uses at (c ∷ bs) (suc k) b h e =
      let same : at + 1 + k ≡ at + suc k = omega arith in
      subst (λ (n : ℕ). Each Q (block_uses f func n b)) same (in_block_uses (at + 1) bs k b (each_right Q (block_uses f func at c) (blocks_uses f func (at + 1) bs) h) e)

  pub of_block : (k : ℕ) (b : Block) → Each Q (uses_of func f) → slice_get f.blocks k ≡ Some b → Each Q (block_uses f func k b)
  of_block k b h e = let same : 0 + k ≡ k = omega arith in subst (λ (n : ℕ). Each Q (block_uses f func n b)) same (in_block_uses 0 f.blocks k b h e)

  -- the uses of a block, of its three kinds
  pub record AreOfBlock (k : ℕ) (b : Block) : Type 0 where
    pub phis : Each Q (phi_uses f func k 0 b.phis)
    pub instrs : Each Q (instr_uses func k (length b.phis) (phi_values b) b.instrs)
    pub term : Each Q (uses_at (instr_place func k (length b.phis + length b.instrs)) k (block_values b) (ending_operands b.term))

  pub three_kinds : (k : ℕ) (b : Block) → Each Q (block_uses f func k b) → AreOfBlock k b
  unfolding block_uses
  three_kinds k b h =
      let rest = each_right Q (phi_uses f func k 0 b.phis) (instr_uses func k (length b.phis) (phi_values b) b.instrs ++ uses_at (instr_place func k (length b.phis + length b.instrs)) k (block_values b) (ending_operands b.term)) h in
      record {
        phis = each_left Q (phi_uses f func k 0 b.phis) _ h;
        instrs = each_left Q (instr_uses func k (length b.phis) (phi_values b) b.instrs) _ rest;
        term = each_right Q (instr_uses func k (length b.phis) (phi_values b) b.instrs) (uses_at (instr_place func k (length b.phis + length b.instrs)) k (block_values b) (ending_operands b.term)) rest;
      }

module _ (func : ℕ) (f : Function) (none : IsFirstUndefined f (uses_of func f) None) (v : ℕ) (no_phi : (block : ℕ) → Each (λ p. p.result ≡ v → ⊥) (phis_of (slice_get f.blocks block))) (no_param : IsListed v (params_of f) → ⊥) (labels : (k : ℕ) (b : Block) → slice_get f.blocks k ≡ Some b → position_of f b.label ≡ k) where
  abbrev IsDefined : Use → Type 0
  IsDefined u = IsUndefined f u → ⊥

  uses_in : (k : ℕ) (b : Block) → slice_get f.blocks k ≡ Some b → AreOfBlock IsDefined f func k b
  uses_in k b e = three_kinds IsDefined f func k b (of_block IsDefined f func k b (none_undefined f (uses_of func f) None none refl) e)

  unmade_in : (p : Point) (b : Block) → slice_get f.blocks p.block ≡ Some b → ReachesPoint f v p → (j : ℕ) (x : Instr) → j < p.at → slice_get b.instrs j ≡ Some x → is_result v (result_of x) ≡ false
  unmade_in p b e h j x lt d = sym (ap (λ (o : Option Block). passes (λ i. is_result v (result_of i)) (instr_in o j)) e ∙ ap (passes (λ i. is_result v (result_of i))) d) ∙ h.unmade j lt

  phis_unmade : (k : ℕ) (b : Block) → slice_get f.blocks k ≡ Some b → IsListed v (phi_values b) → ⊥
  phis_unmade k b e = none_by_phis (λ u. Unit {0}) v [] b.phis (λ x. x) (subst (λ (o : Option Block). Each (λ p. p.result ≡ v → ⊥) (phis_of o)) e (no_phi k))

  not_in_instr : (p : Point) (i : Instr) → instr_at f p ≡ Some i → ReachesPoint f v p → IsTrue (list_any (is_local v) (operands_of i)) → ⊥
  not_in_instr p i e h used =
      let x = stands_in f p i e in
      let u = instr_use IsDefined v func p.block (length x.block.phis) (phi_values x.block) x.block.instrs p.at i (uses_in p.block x.block x.got).instrs x.stands (subst (λ (xs : List Operand). IsTrue (list_any (is_local v) xs)) (sym (operands_spelt i)) used) (phis_unmade p.block x.block x.got) (unmade_in p x.block x.got h) in
      u.listed (record { reaches = h.reaches; not_before = u.unmade; no_param = no_param })

  values_unmade : (p : Point) (b : Block) → slice_get f.blocks p.block ≡ Some b → p.at ≡ length b.instrs → ReachesPoint f v p → IsListed v (block_values b) → ⊥
  values_unmade p b e at h =
      none_made (λ u. Unit {0}) v (phi_values b) b.instrs (phis_unmade p.block b e)
      (λ j x d. unmade_in p b e h j x (subst (λ (n : ℕ). j < n) (sym at) (get_within b.instrs j x d)) d)

  not_in_term : (p : Point) (b : Block) → slice_get f.blocks p.block ≡ Some b → p.at ≡ length b.instrs → ReachesPoint f v p → IsTrue (list_any (is_local v) (operands_of_term b.term)) → ⊥
  not_in_term p b e at h used =
      use_at IsDefined v (instr_place func p.block (length b.phis + length b.instrs)) p.block (block_values b) (ending_operands b.term) (uses_in p.block b e).term (subst (λ (xs : List Operand). IsTrue (list_any (is_local v) xs)) (sym (ending_spelt b.term)) used)
      (record { reaches = h.reaches; not_before = values_unmade p b e at h; no_param = no_param })

  not_here : (p : Point) (here : Fetched) → Stands f p here → ReachesPoint f v p → IsTrue (list_any (is_local v) (operands_read here)) → ⊥
  not_here p _ Nothing h used = absurd (cc)
  not_here p _ (AnInstr i e) h used = on (is_call_of Intrinsic.CoroEnd i) used
    where
      on : (b : Bool) → IsTrue (list_any (is_local v) (if b then [] else operands_of i)) → ⊥
      on true k = absurd (cc)
      on false k = not_in_instr p i e h k
  not_here p _ (ATerm b e at gone) h used = not_in_term p b e at h used

  not_on_edge : (p : Point) (b : Block) (label : ℕ) → slice_get f.blocks p.block ≡ Some b → p.at ≡ length b.instrs → ReachesPoint f v p → IsTaken f v p.block label → ⊥
  not_on_edge p b label e at h taken = on (slice_get f.blocks (position_of f label)) refl taken
    where
      there : position_of f (label_of (slice_get f.blocks p.block)) ≡ p.block
      there = ap (λ (o : Option Block). position_of f (label_of o)) e ∙ labels p.block b e

      on : (o : Option Block) → slice_get f.blocks (position_of f label) ≡ o → IsTrue (list_any (λ q. is_local v (incoming_from q.incoming (label_of (slice_get f.blocks p.block)))) (phis_of o)) → ⊥
      on None d k = absurd (cc)
      on (Some c) d k =
          let u = of_phis IsDefined f func v (label_of (slice_get f.blocks p.block)) (position_of f label) 0 c.phis (uses_in (position_of f label) c d).phis k in
          subst (λ (n : ℕ). IsDefined (use_of u.0 n (values_at f n) v)) there u.1
          (record { reaches = h.reaches; not_before = λ l. values_unmade p b e at h (subst (λ (o : Option Block). IsListed v (values_in o)) e l); no_param = no_param })

  pub dead_at_entry : IsDead f false v entry
  dead_at_entry last path used = on used
    where
      reached : ReachesPoint f v last
      reached = walked f v no_phi last entry (record { reaches = Entry; unmade = λ j lt. absurd (omega arith) }) path

      on : IsUsed f v last → ⊥
      on (AsOperand h) = not_here last (fetch f last.block last.at) (stands f last) reached h
      on (OnEdge b label e at target taken) = not_on_edge last b label e at reached taken
