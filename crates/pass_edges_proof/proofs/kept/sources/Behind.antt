-- What is needed behind a suspend is used behind it in the sense of K7, where what defines the value gives it.
use Rattle.std.proofs.Common.{◌≡◌, ◌<◌, ◌⊎◌, inl, inr, ℕ, ◌+◌, Bool, true, false, List, [], ◌∷◌, length, Option, Some, None, refl, sym, ap, ◌∙◌, subst, arith}
use Rattle.std.specs.Prelude.{IsTrue, slice_get, ◌==◌, ◌||◌, if◌then◌else◌}
use Rattle.pass_early_proof.specs.rule_uses.Uses.{Use, block_values, local_of, locals_in, phi_values, use_of, uses_of, values_at, values_in}
use Rattle.pass_early_proof.proofs.ir_laws.facts.Truth.{equal_numbers, not_equal}
use Rattle.pass_early_proof.proofs.ir_laws.facts.Lists.{get_within}
use Rattle.pass_early_proof.proofs.rule_laws.rules.renamed.Uses.{AreOfBlock, block_edge, instr_use, none_made, of_block, of_phis, three_kinds, use_at}
use Rattle.pass_early_proof.proofs.ir_laws.paths.renamed.Uses.{stands_in}
use Rattle.pass_early_proof.proofs.early.save_simulation.Suspending.{fetch_at}
use Rattle.pass_early_proof.specs.ir_laws.paths.renamed.Regular.{is_call_at, makes}
use Rattle.pass_early_proof.specs.ir_laws.facts.renamed.Regular.{is_result, passes}
use Rattle.pass_early_proof.specs.flow_solver.Paths.{IsListed}
use Rattle.pass_early_proof.specs.ir_parts.Contents.{ending_operands, instr_operands}
use Rattle.pass_early_proof.specs.ir_parts.Parts.{instr_place}
use Rattle.ir_model.specs.Names.{is_local, position_of}
use Rattle.ir_model.specs.declared.instr.Incoming.{Incoming}
use Rattle.ir_model.specs.declared.instr.Instr.{Instr}
use Rattle.ir_model.specs.declared.instr.Phi.{Phi}
use Rattle.ir_model.specs.declared.instr.Terminator.{Terminator}
use Rattle.ir_model.specs.declared.module.Block.{Block}
use Rattle.ir_model.specs.declared.module.Function.{Function}
use Rattle.ir_model.specs.declared.operand.Intrinsic.{Intrinsic}
use Rattle.ir_model.specs.declared.operand.Operand.{Operand}
use Rattle.pass_early_proof.specs.ir_paths.Paths.{targets}
use Rattle.pass_early_proof.specs.ir_paths.Windows.{destroy_label, end_block, instr_at, instr_in, is_call_of, resume_label}
use Rattle.pass_early_proof.specs.ir_paths.declared.point.Point.{Point}
use Rattle.pass_early_proof.proofs.rule_laws.rules.sources.Places.{IsEnd, any_local, instr_there, point, term_there}
use Rattle.pass_edges_proof.proofs.kept.sources.Places.{branch_there}
use Rattle.pass_kept_proof.proofs.Read.{end_reads_nothing, listed_by_name, made_phi, read_here}
use Rattle.pass_kept_proof.specs.Needed.{BranchesTo, IsNeeded, IsNeededBehind, IsNeededOn, PassesBy, enter, given_by, label_of_block, next, phi, phis_at, phis_give, phis_read, read, reads_at}
use Rattle.pass_early_proof.specs.run_step.Step.{AtInstr, AtTerm, Fetched, Nowhere, fetch, incoming_from, label_of, phis_of}
use Rattle.pass_early_proof.specs.run_laws.changed.Changed.{result_of}
use Rattle.pass_early_proof.specs.rule_window_values.Kept.{InBlock, IsUsedBehind, Next as NextBlock, OnEdge as OnOwnEdge, Own, ReachesBehind, TakesFrom, own_blocks, phis_in}
use Rattle.pass_early_proof.proofs.ir_laws.paths.source_rules.Behind.{each_listed}

-- ---- phis on the suspend's own edges

-- an operand of a phi for a label
record IsFrom (v label : ℕ) (is : List Incoming) : Type 0 where
  incoming : Incoming
  listed : IsListed incoming is
  from : incoming.from ≡ label
  takes : local_of incoming.value ≡ Some v

local_value : (v : ℕ) (x : Operand) → is_local v x ≡ true → local_of x ≡ Some v
local_value v (Operand.Local n) e = ap Some (sym (equal_numbers v n e))
local_value v (Operand.Global n) e = absurd (cc)
local_value v (Operand.Number z) e = absurd (cc)
local_value v Operand.True e = absurd (cc)
local_value v Operand.False e = absurd (cc)
local_value v Operand.Null e = absurd (cc)
local_value v Operand.None e = absurd (cc)
local_value v Operand.Poison e = absurd (cc)

is_from : (v label : ℕ) (is : List Incoming) → is_local v (incoming_from is label) ≡ true → IsFrom v label is
is_from v label [] e = absurd (cc)
is_from v label (x ∷ is) e = on (x.from == label) refl e (is_from v label is)
  where
    on : (b : Bool) → (x.from == label) ≡ b → is_local v (if b then x.value else incoming_from is label) ≡ true → (is_local v (incoming_from is label) ≡ true → IsFrom v label is) → IsFrom v label (x ∷ is)
    on true d k rest = record { incoming = x; listed = inl refl; from = equal_numbers x.from label d; takes = local_value v x.value k }
    on false d k rest = let y = rest k in record { incoming = y.incoming; listed = inr y.listed; from = y.from; takes = y.takes }

record IsTaken (v label : ℕ) (ps : List Phi) : Type 0 where
  taker : Phi
  listed : IsListed taker ps
  operand : IsFrom v label taker.incoming

is_taken : (v label : ℕ) (ps : List Phi) → phis_read v label ps ≡ true → IsTaken v label ps
is_taken v label [] e = absurd (cc)
is_taken v label (p ∷ ps) e = on (is_local v (incoming_from p.incoming label)) refl e (is_taken v label ps)
  where
    on : (b : Bool) → is_local v (incoming_from p.incoming label) ≡ b → (b || phis_read v label ps) ≡ true → (phis_read v label ps ≡ true → IsTaken v label ps) → IsTaken v label (p ∷ ps)
    on true d k rest = record { taker = p; listed = inl refl; operand = is_from v label p.incoming d }
    on false d k rest = let y = rest k in record { taker = y.taker; listed = inr y.listed; operand = y.operand }

takes_from : (f : Function) (v from block l : ℕ) → position_of f l ≡ from → (o : Option Block) → slice_get f.blocks block ≡ o → phis_read v l (phis_of o) ≡ true → TakesFrom f v from block
takes_from f v from block l there None e h = absurd (cc)
takes_from f v from block l there (Some b) e h =
    let x = is_taken v l b.phis h in
    record {
      phi = x.taker;
      incoming = x.operand.incoming;
      stands = subst (λ (o : Option Block). IsListed x.taker (phis_in o)) (sym e) x.listed;
      comes = x.operand.listed;
      is_from = ap (position_of f) x.operand.from ∙ there;
      takes = x.operand.takes;
    }

-- ---- paths behind the suspend

module _ (k : ℕ) (f : Function) (v : ℕ) (labels : (j : ℕ) (b : Block) → slice_get f.blocks j ≡ Some b → position_of f b.label ≡ j) (end_first : is_call_at f Intrinsic.CoroEnd (point (end_block f) 0) ≡ true) (gives : (block at : ℕ) (i : Instr) → fetch f block at ≡ AtInstr i → result_of i ≡ Some v → given_by i ≡ Some v) (s : Point) where
  -- a path leads to a place from one of the suspend's own edges, and nothing on it makes v or is of the end's block
  record Comes (block at : ℕ) : Type 0 where
    reaches : ReachesBehind f s v block
    no_phi : phis_give v (phis_of (slice_get f.blocks block)) ≡ false
    unmade : (j : ℕ) → j < at → makes f v (point block j) ≡ false
    front : block ≡ end_block f → at ≡ 0

  phis_unmade : (block : ℕ) (b : Block) → slice_get f.blocks block ≡ Some b → phis_give v (phis_of (slice_get f.blocks block)) ≡ false → IsListed v (phi_values b) → ⊥
  phis_unmade block b e none h = on (made_phi v b.phis [] h)
    where
      on : IsListed v [] ⊎ (phis_give v b.phis ≡ true) → ⊥
      on (inl x) = x
      on (inr g) = let t : true ≡ false = sym g ∙ ap (λ (o : Option Block). phis_give v (phis_of o)) (sym e) ∙ none in absurd (cc)

  made_is : (block : ℕ) (b : Block) → slice_get f.blocks block ≡ Some b → (j : ℕ) (x : Instr) → slice_get b.instrs j ≡ Some x → makes f v (point block j) ≡ is_result v (result_of x)
  made_is block b e j x d = ap (λ (o : Option Block). passes (λ i. is_result v (result_of i)) (instr_in o j)) e ∙ ap (passes (λ i. is_result v (result_of i))) d

  values_unmade : (block at : ℕ) (b : Block) → slice_get f.blocks block ≡ Some b → at ≡ length b.instrs → Comes block at → IsListed v (block_values b) → ⊥
  values_unmade block at b e last c =
      none_made (λ u. Unit {0}) v (phi_values b) b.instrs (phis_unmade block b e c.no_phi)
      (λ j x d. sym (made_is block b e j x d) ∙ c.unmade j (subst (λ (n : ℕ). j < n) (sym last) (get_within b.instrs j x d)))

  -- at the front of the end's block stands the end
  at_end : (block at : ℕ) → Comes block at → block ≡ end_block f → is_call_at f Intrinsic.CoroEnd (point block at) ≡ true
  at_end block at c e = let z : at ≡ 0 = c.front e in ap (λ (p : Point). is_call_at f Intrinsic.CoroEnd p) (λ j. point (e j) (z j)) ∙ end_first

  end_there : (block at : ℕ) (i : Instr) → Comes block at → fetch f block at ≡ AtInstr i → block ≡ end_block f → is_call_of Intrinsic.CoroEnd i ≡ true
  end_there block at i c e same = sym (ap (passes (is_call_of Intrinsic.CoroEnd)) (instr_there f block at i e)) ∙ at_end block at c same

  no_end_term : (block at : ℕ) (t : Terminator) → Comes block at → fetch f block at ≡ AtTerm t → block ≡ end_block f → ⊥
  no_end_term block at t c e same = on (instr_at f (point block at)) refl (at_end block at c same)
    where
      on : (o : Option Instr) → instr_at f (point block at) ≡ o → passes (is_call_of Intrinsic.CoroEnd) o ≡ true → ⊥
      on None d h = absurd (cc)
      on (Some i) d h = let no : AtInstr i ≡ AtTerm t = sym (fetch_at f (point block at) i d) ∙ e in absurd (cc)

  -- ---- uses

  abbrev IsOne : Use → Type 0
  IsOne u = IsListed u (uses_of k f)

  uses_in : (block : ℕ) (b : Block) → slice_get f.blocks block ≡ Some b → AreOfBlock IsOne f k block b
  uses_in block b e = three_kinds IsOne f k block b (of_block IsOne f k block b (each_listed (uses_of k f) (uses_of k f) (λ u h. h)) e)

  by_instr : (block at : ℕ) (i : Instr) → fetch f block at ≡ AtInstr i → Comes block at → IsTrue (reads_at v (AtInstr i)) → IsUsedBehind k f s v
  by_instr block at i e c h =
      let x = stands_in f (point block at) i (instr_there f block at i e) in
      let u = instr_use IsOne v k block (length x.block.phis) (phi_values x.block) x.block.instrs at i (uses_in block x.block x.got).instrs x.stands (any_local v (instr_operands i) (read_here v (AtInstr i) h)) (phis_unmade block x.block x.got c.no_phi) (λ j y lt d. sym (made_is block x.block x.got j y d) ∙ c.unmade j lt) in
      InBlock (use_of u.place block u.before v) u.listed refl c.reaches u.unmade (λ same. end_reads_nothing v i (end_there block at i c e same) h)

  by_term : (block at : ℕ) (t : Terminator) → fetch f block at ≡ AtTerm t → Comes block at → IsListed v (locals_in (ending_operands t)) → IsUsedBehind k f s v
  by_term block at t e c h = on (term_there f block at t e)
    where
      on : IsEnd f block at t → IsUsedBehind k f s v
      on x =
          InBlock (use_of (instr_place k block (length x.own.phis + length x.own.instrs)) block (block_values x.own) v)
          (use_at IsOne v (instr_place k block (length x.own.phis + length x.own.instrs)) block (block_values x.own) (ending_operands x.own.term) (uses_in block x.own x.got).term
          (any_local v (ending_operands x.own.term) (subst (λ (u : Terminator). IsListed v (locals_in (ending_operands u))) (sym x.is) h)))
          refl c.reaches (values_unmade block at x.own x.got x.last c) (no_end_term block at t c e)

  by_place : (block at : ℕ) → Comes block at → IsTrue (reads_at v (fetch f block at)) → IsUsedBehind k f s v
  by_place block at c h = on (fetch f block at) refl h
    where
      on : (x : Fetched) → fetch f block at ≡ x → reads_at v x ≡ true → IsUsedBehind k f s v
      on Nowhere e r = absurd (cc)
      on (AtInstr i) e r = by_instr block at i e c r
      on (AtTerm t) e r = by_term block at t e c (read_here v (AtTerm t) r)

  from_label : (block : ℕ) (b : Block) → slice_get f.blocks block ≡ Some b → position_of f (label_of_block f block) ≡ block
  from_label block b e = ap (λ (o : Option Block). position_of f (label_of o)) e ∙ labels block b e

  by_edge : (block at label : ℕ) → Comes block at → BranchesTo label (fetch f block at) → phis_read v (label_of_block f block) (phis_at f label) ≡ true → IsUsedBehind k f s v
  by_edge block at label c br h =
      let x = branch_there f block at label br in
      on x.0 x.1.0
    where
      on : (t : Terminator) → IsEnd f block at t → IsUsedBehind k f s v
      on t x = into (slice_get f.blocks (position_of f label)) refl h
        where
          there : position_of f (label_of_block f block) ≡ block
          there = from_label block x.own x.got

          into : (o : Option Block) → slice_get f.blocks (position_of f label) ≡ o → phis_read v (label_of_block f block) (phis_of o) ≡ true → IsUsedBehind k f s v
          into None d r = absurd (cc)
          into (Some d) got r =
              let u = of_phis IsOne f k v (label_of_block f block) (position_of f label) 0 d.phis (uses_in (position_of f label) d got).phis r in
              InBlock (use_of u.0 (position_of f (label_of_block f block)) (values_at f (position_of f (label_of_block f block))) v) u.1 refl
              (subst (ReachesBehind f s v) (sym there) c.reaches)
              (λ l. values_unmade block at x.own x.got x.last c (subst (λ (o : Option Block). IsListed v (values_in o)) x.got (subst (λ (n : ℕ). IsListed v (values_at f n)) there l)))
              (λ same. at_term (branch_there f block at label br) (sym there ∙ same))
            where
              at_term : (y : (u : Terminator) × (IsEnd f block at u × BranchesTo label (AtTerm u))) → block ≡ end_block f → ⊥
              at_term y same = on_fetch (fetch f block at) refl br
                where
                  on_fetch : (z : Fetched) → fetch f block at ≡ z → BranchesTo label z → ⊥
                  on_fetch Nowhere e q = q
                  on_fetch (AtInstr i) e q = q
                  on_fetch (AtTerm u) e q = no_end_term block at u c e same

  -- ---- on

  over : (block at : ℕ) → Comes block at → PassesBy v (fetch f block at) → Comes block (at + 1)
  over block at c h = on (fetch f block at) refl h
    where
      below : (j : ℕ) → j < at + 1 → (j ≡ at → ⊥) → j < at
      below j lt ne = omega (arith, ne)

      on : (x : Fetched) → fetch f block at ≡ x → PassesBy v x → Comes block (at + 1)
      on Nowhere e p = absurd p
      on (AtTerm t) e p = absurd p
      on (AtInstr i) e p = record {
        reaches = c.reaches;
        no_phi = c.no_phi;
        unmade = λ j lt. earlier j lt (j == at) refl;
        front = λ same. absurd (not_end (end_there block at i c e same));
      }
        where
          not_end : is_call_of Intrinsic.CoroEnd i ≡ true → ⊥
          not_end is = let no : is_call_of Intrinsic.CoroEnd i ≡ false = p.0 in absurd (cc)

          other : (b : Bool) → is_result v (result_of i) ≡ b → b ≡ false
          other true d = absurd (p.1 (gives block at i e (there (result_of i) d)))
            where
              there : (o : Option ℕ) → is_result v o ≡ true → o ≡ Some v
              there None q = absurd (cc)
              there (Some n) q = ap Some (equal_numbers n v q)
          other false d = refl

          earlier : (j : ℕ) → j < at + 1 → (b : Bool) → (j == at) ≡ b → makes f v (point block j) ≡ false
          earlier j lt true q =
              ap (λ (n : ℕ). makes f v (point block n)) (equal_numbers j at q) ∙ ap (passes (λ x. is_result v (result_of x))) (instr_there f block at i e) ∙ other (is_result v (result_of i)) refl
          earlier j lt false q = c.unmade j (below j lt (not_equal j at q))

  across : (block at label : ℕ) → Comes block at → BranchesTo label (fetch f block at) → phis_give v (phis_at f label) ≡ false → Comes (position_of f label) 0
  across block at label c br none = on (fetch f block at) refl br
    where
      on : (x : Fetched) → fetch f block at ≡ x → BranchesTo label x → Comes (position_of f label) 0
      on Nowhere e p = absurd p
      on (AtInstr i) e p = absurd p
      on (AtTerm t) e p = by (term_there f block at t e)
        where
          by : IsEnd f block at t → Comes (position_of f label) 0
          by x =
              let listed : IsListed label (targets x.own.term) = subst (λ (u : Terminator). IsListed label (targets u)) (sym x.is) (listed_by_name _ label p) in
              record {
                reaches = NextBlock block (position_of f label) c.reaches (λ h. values_unmade block at x.own x.got x.last c (subst (λ (o : Option Block). IsListed v (values_in o)) x.got h)) (no_end_term block at t c e) (block_edge f block x.own label x.got listed);
                no_phi = none;
                unmade = λ j lt. absurd (omega arith);
                front = λ same. refl;
              }

  used : {block at : ℕ} → IsNeeded f v block at → Comes block at → IsUsedBehind k f s v
  used (read {block} {at} h) c = by_place block at c h
  used (next {block} {at} h n) c = used n (over block at c h)
  used (phi {block} {at} label br h) c = by_edge block at label c br h
  used (enter {block} {at} label br none n) c = used n (across block at label c br none)

  -- ---- the suspend's own edges

  used_on : (label : ℕ) (b : Block) → slice_get f.blocks s.block ≡ Some b → IsListed (position_of f label) (own_blocks f s) → IsNeededOn f v s.block label → IsUsedBehind k f s v
  used_on label b e own (inl h) =
      OnOwnEdge (position_of f label) own (takes_from f v s.block (position_of f label) (label_of_block f s.block) (from_label s.block b e) (slice_get f.blocks (position_of f label)) refl h)
  used_on label b e own (inr h) = used h.1 (record { reaches = Own (position_of f label) own; no_phi = h.0; unmade = λ j lt. absurd (omega arith); front = λ same. refl })

  pub used_behind : (b : Block) → slice_get f.blocks s.block ≡ Some b → IsNeededBehind f s v → IsUsedBehind k f s v
  used_behind b e (inl h) = used_on (resume_label f s) b e (inl refl) h
  used_behind b e (inr h) = used_on (destroy_label f s) b e (inr (inl refl)) h
