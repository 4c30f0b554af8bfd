-- What the shape of a form says of each name, and of what gives it (N1).
use Rattle.std.proofs.Common.{◌≡◌, ◌≢◌, ◌⊎◌, inl, inr, ⊎_elim, ◌<◌, ℕ, Bool, true, false, List, [], ◌∷◌, refl, sym, ap, ◌∙◌, arith}
use Rattle.std.proofs.lemmas.Bool.{false≢true, ltb-true}
use Rattle.std.specs.List.{list_any}
use Rattle.std.specs.Prelude.{None, Option, Some, is_some, nat_le, nat_lt, slice_get, if◌then◌else◌, ◌&&◌, ◌||◌, ◌==◌}
use Rattle.pass_elide_edges.specs.Keeping.{HasEdge}
use Rattle.pass_elide_edges.specs.pass_elide_proof.Edges.{IsNoAnswer, phis_at}
use Rattle.pass_elide_edges.specs.pass_elide_proof.Elision.{Shape, differs_in}
use Rattle.pass_elide_edges.specs.pass_elide_proof.Places.{instrs_in, instrs_of}
use Rattle.pass_elide_edges.specs.pass_elide_proof.Placing.{SetsPlain, is_test}
use Rattle.pass_elide_ready.proofs.Entries.{no_edge_back}
use Rattle.pass_elide_ready.proofs.FreedForm.{chosen_edge, first_edge, jump_edge, other_edge, second_edge}
use Rattle.pass_elide_ready.proofs.Listed.{IsFound, found, tested_is}
use Rattle.pass_elide_ready.proofs.Names.{low_name, no_phi_gives, same_one, same_place}
use Rattle.pass_elide_ready.proofs.Numbers.{gives_there, is_name_is, not_true}
use Rattle.pass_elide_ready.specs.Form.{Asking, AsksSo, Freeing, FreesSo, HasForm, gives_freed, gives_in, has_both, passed_by, passed_of, shape_by}
use Rattle.pass_elide_edges.proofs.pass_elide_proof.pass_proofs.ir_laws.facts.Lists.{at_any}
use Rattle.pass_elide_edges.proofs.pass_elide_proof.pass_proofs.ir_laws.facts.Truth.{and_first, and_second, equal_numbers, itself}
use Rattle.pass_elide_edges.proofs.pass_elide_proof.pass_proofs.ir_laws.paths.edges.Lists.{listed_at}
use Rattle.pass_elide_edges.proofs.pass_elide_proof.pass_proofs.ir_laws.paths.woven_rules.Unbroken.{of_listed}
use Rattle.pass_elide_edges.specs.pass_elide_proof.pass_proofs.flow_solver.Paths.{IsListed}
use Rattle.pass_elide_edges.specs.pass_elide_proof.pass_proofs.ir_base.declared.ops.Pred.{Pred}
use Rattle.pass_elide_edges.specs.pass_elide_proof.pass_proofs.ir_model.Names.{position_of}
use Rattle.pass_elide_edges.specs.pass_elide_proof.pass_proofs.ir_model.Ty.{Ty, ptr}
use Rattle.pass_elide_edges.specs.pass_elide_proof.pass_proofs.ir_model.declared.instr.Instr.{Instr}
use Rattle.pass_elide_edges.specs.pass_elide_proof.pass_proofs.ir_model.declared.instr.Phi.{Phi}
use Rattle.pass_elide_edges.specs.pass_elide_proof.pass_proofs.ir_model.declared.module.Block.{Block}
use Rattle.pass_elide_edges.specs.pass_elide_proof.pass_proofs.ir_model.declared.module.Function.{Function}
use Rattle.pass_elide_edges.specs.pass_elide_proof.pass_proofs.ir_model.declared.module.Module.{Module}
use Rattle.pass_elide_edges.specs.pass_elide_proof.pass_proofs.ir_model.declared.operand.Intrinsic.{Intrinsic}
use Rattle.pass_elide_edges.specs.pass_elide_proof.pass_proofs.ir_model.declared.operand.Operand.{Operand}
use Rattle.pass_elide_edges.specs.pass_elide_proof.pass_proofs.ir_parts.Contents.{result_of}
use Rattle.pass_elide_edges.specs.pass_elide_proof.pass_proofs.ir_paths.Windows.{call_result, is_call_of}
use Rattle.pass_elide_edges.specs.pass_elide_proof.pass_proofs.rule_laws.rules.function_rules.Kept.{KeepsFunctionRules}

either : (a b : Bool) → (a || b) ≡ true → (a ≡ true) ⊎ (b ≡ true)
either true b e = inl refl
either false b e = inr e

not_some : {A : Type 0} (o : Option A) → ((y : A) → o ≡ Some y → ⊥) → o ≡ None
not_some None h = refl
not_some (Some y) h = absurd (h y refl)

call_gives : (i : Instr) (v : ℕ) → call_result i ≡ Some v → result_of i ≡ Some v
call_gives (Instr.Call result must_tail ty callee args) v e = e
call_gives _ v e = absurd (cc)

-- an instruction of some block gives the name
pub record IsGiven (f : Function) (v : ℕ) : Type 0 where
  pub block : ℕ
  pub at : ℕ
  pub instr : Instr
  pub there : slice_get (instrs_of f block) at ≡ Some instr
  pub gives : result_of instr ≡ Some v

-- so does one of a block that isn't the entry
pub record IsMadeBy (f : Function) (v : ℕ) : Type 0 where
  pub block : ℕ
  pub at : ℕ
  pub instr : Instr
  pub there : slice_get (instrs_of f block) at ≡ Some instr
  pub gives : result_of instr ≡ Some v
  pub inside : block ≢ 0

in_block : (f : Function) (block v : ℕ) → block ≢ 0 → gives_in f block v ≡ true → IsMadeBy f v
in_block f block v ne e =
    let y = gives_there f block v e in
    record { block = block; at = y.at; instr = y.instr; there = y.there; gives = y.gives; inside = ne }

-- a coro.free gives it
pub record IsFreedBy (f : Function) (v : ℕ) : Type 0 where
  pub block : ℕ
  pub at : ℕ
  pub instr : Instr
  pub there : slice_get (instrs_of f block) at ≡ Some instr
  pub frees : is_call_of Intrinsic.CoroFree instr ≡ true
  pub gives : result_of instr ≡ Some v

in_own : (f : Function) (block at : ℕ) (b : Block) (i : Instr) → slice_get f.blocks block ≡ Some b
    → slice_get b.instrs at ≡ Some i → slice_get (instrs_of f block) at ≡ Some i
in_own f block at b i got there = ap (λ (o : Option Block). slice_get (instrs_in o) at) got ∙ there

module _ (m : Module) (k : ℕ) (f : Function) (rules : KeepsFunctionRules m k f) (a : Asking) (qs : List Freeing)
    (form : HasForm f a qs) (x : Shape) (p : x ≡ shape_by f a qs) where
  -- ---- what a name of the shape is given by

  need_is : (v : ℕ) → x.need v ≡ true → v ≡ a.need
  need_is v e = equal_numbers v a.need (sym (ap (λ (z : Shape). z.need v) p) ∙ e)

  pub need_given : (v : ℕ) → x.need v ≡ true → IsGiven f v
  need_given v e = record {
    block = a.asks;
    at = form.asking.question;
    instr = form.asking.asked;
    there = form.asking.is_asked;
    gives = form.asking.answers ∙ ap Some (sym (need_is v e));
  }

  pub freed_by : (v : ℕ) → x.freed v ≡ true → IsFreedBy f v
  freed_by v e =
      let y = at_any (λ (b : Block). list_any (gives_freed v) b.instrs) f.blocks
      (sym (ap (λ (z : Shape). z.freed v) p) ∙ e) in
      let w = at_any (gives_freed v) y.element.instrs y.passes in
      record {
        block = y.index;
        at = w.index;
        instr = w.element;
        there = in_own f y.index w.index y.element w.element y.got w.got;
        frees = and_first (is_call_of Intrinsic.CoroFree w.element) _ w.passes;
        gives = is_name_is v (result_of w.element) (and_second (is_call_of Intrinsic.CoroFree w.element) _ w.passes);
      }

  pub tested_by : (v : ℕ) (b : Bool) → x.tested v ≡ Some b
      → IsFound (λ (d : Freeing). d.tested == v) (λ (d : Freeing). d.is_eq) qs b
  tested_by v b e = found (λ (d : Freeing). d.tested == v) (λ (d : Freeing). d.is_eq) qs b
      (sym (tested_is qs v) ∙ sym (ap (λ (z : Shape). z.tested v) p) ∙ e)

  pub tested_given : (v : ℕ) (b : Bool) → x.tested v ≡ Some b → IsGiven f v
  tested_given v b e =
      let y = tested_by v b e in
      let q : Freeing = y.element in
      let s = form.freeing q y.listed in
      record {
        block = q.tests;
        at = s.test;
        instr = Instr.Icmp q.tested (if q.is_eq then Pred.Eq else Pred.Ne) ptr s.left s.right;
        there = s.is_test;
        gives = ap Some (equal_numbers q.tested v y.passes);
      }

  pub tested_begins_not : (v : ℕ) (b : Bool) (e : x.tested v ≡ Some b)
      → is_call_of Intrinsic.CoroBegin (tested_given v b e).instr ≡ false
  unfolding tested_given
  tested_begins_not v b e = refl

  led_to : (block label to : ℕ) → HasEdge f block label → position_of f label ≡ to → to ≢ 0
  led_to block label to edge leads first = no_edge_back m k f rules block label edge (leads ∙ first)

  passed_given_by : (ps : List Freeing) → ((q : Freeing) → IsListed q ps → IsListed q qs) → (v : ℕ)
      → passed_of f ps v ≡ true → IsMadeBy f v
  passed_given_by [] all v e = absurd (false≢true e)
  passed_given_by (q ∷ ps) all v e = ⊎_elim (one (form.freeing q (all q (inl refl))))
      (passed_given_by ps (λ r l. all r (inr l)) v)
      (either (passed_by f q v) (passed_of f ps v) e)
    where
      one : FreesSo f q → passed_by f q v ≡ true → IsMadeBy f v
      one s h = ⊎_elim
          (λ (g : gives_in f q.frees v ≡ true).
          in_block f q.frees v (led_to q.tests (if q.is_eq then q.other else q.one) q.frees
          (chosen_edge f q.tests q.one q.other (Operand.Local q.tested) q.is_eq s.branch) s.to_free) g)
          (λ (g : (has_both q && (gives_in f q.after v || gives_in f q.beside v)) ≡ true).
          ⊎_elim
          (λ (b : gives_in f q.after v ≡ true).
          in_block f q.after v (led_to q.frees s.jumps.label q.after (jump_edge f q.frees q.after s.jumps)
          s.jumps.leads) b)
          (λ (b : gives_in f q.beside v ≡ true).
          in_block f q.beside v (led_to q.tests (if q.is_eq then q.one else q.other) q.beside
          (other_edge f q.tests q.one q.other (Operand.Local q.tested) q.is_eq s.branch) s.to_beside) b)
          (either (gives_in f q.after v) (gives_in f q.beside v) (and_second (has_both q) _ g)))
          (either (gives_in f q.frees v) _ h)

  passed_given : (v : ℕ) → x.passed v ≡ true → IsMadeBy f v
  passed_given v e = passed_given_by qs (λ q l. l) v (sym (ap (λ (z : Shape). z.passed v) p) ∙ e)

  -- what is made is begin's memory, or given in one of three blocks
  made_given : (v : ℕ) → x.made v ≡ true → (v ≡ a.memory) ⊎ IsMadeBy f v
  made_given v e = ⊎_elim
      (λ (g : (v == a.memory) ≡ true). inl (equal_numbers v a.memory g))
      (λ (g : (gives_in f a.allocates v || (gives_in f a.after v || gives_in f a.beside v)) ≡ true). inr (there g))
      (either (v == a.memory) _ (sym (ap (λ (z : Shape). z.made v) p) ∙ e))
    where
      s : AsksSo f a
      s = form.asking

      there : (gives_in f a.allocates v || (gives_in f a.after v || gives_in f a.beside v)) ≡ true → IsMadeBy f v
      there h = ⊎_elim
          (λ (g : gives_in f a.allocates v ≡ true).
          in_block f a.allocates v (led_to a.asks a.one a.allocates
          (first_edge f a.asks a.one a.other (Operand.Local a.need) s.branch) s.to_allocator) g)
          (λ (g : (gives_in f a.after v || gives_in f a.beside v) ≡ true).
          ⊎_elim
          (λ (b : gives_in f a.after v ≡ true).
          in_block f a.after v (led_to a.allocates s.jumps.label a.after (jump_edge f a.allocates a.after s.jumps)
          s.jumps.leads) b)
          (λ (b : gives_in f a.beside v ≡ true).
          in_block f a.beside v (led_to a.asks a.other a.beside
          (second_edge f a.asks a.one a.other (Operand.Local a.need) s.branch) s.to_beside) b)
          (either (gives_in f a.after v) (gives_in f a.beside v) g))
          (either (gives_in f a.allocates v) _ h)

  -- ---- what stands at a place gives none of these but where it is asked for

  module _ (block at v : ℕ) (i : Instr) (there : slice_get (instrs_of f block) at ≡ Some i)
      (one : result_of i ≡ Some v) where
    sets_need : is_call_of Intrinsic.CoroAlloc i ≡ false → x.need v ≡ false
    unfolding need_given
    sets_need other = not_true (x.need v) (λ e.
        let y = need_given v e in
        let same : i ≡ form.asking.asked =
        same_one m k f rules block at a.asks form.asking.question v i form.asking.asked there y.there one y.gives in
        false≢true (sym other ∙ ap (is_call_of Intrinsic.CoroAlloc) same ∙ form.asking.is_question))

    sets_freed : is_call_of Intrinsic.CoroFree i ≡ false → x.freed v ≡ false
    sets_freed other = not_true (x.freed v) (λ e.
        let y = freed_by v e in
        let same : i ≡ y.instr =
        same_one m k f rules block at y.block y.at v i y.instr there y.there one y.gives in
        false≢true (sym other ∙ ap (is_call_of Intrinsic.CoroFree) same ∙ y.frees))

    sets_tested : is_test x i ≡ false → x.tested v ≡ None
    unfolding tested_given
    sets_tested other = not_some (x.tested v) (λ b e.
        let y = tested_by v b e in
        let q : Freeing = y.element in
        let s = form.freeing q y.listed in
        let w = tested_given v b e in
        let same : i ≡ w.instr = same_one m k f rules block at w.block w.at v i w.instr there w.there one w.gives in
        let name : q.tested ≡ v = equal_numbers q.tested v y.passes in
        false≢true (sym other ∙ ap (is_test x) same ∙ ap (λ (u : ℕ). is_some (x.tested u)) name
        ∙ ap is_some e))

    -- begin's memory is a phi's
    not_memory : v ≢ a.memory
    not_memory e = of_listed (λ (z : Phi). z.result ≡ v → ⊥) (phis_at f a.begins)
        (no_phi_gives m k f rules block at v i there one a.begins) form.asking.phi
        (listed_at (phis_at f a.begins) form.asking.position form.asking.phi form.asking.is_phi)
        (form.asking.sets ∙ sym e)

    -- the block's name is the allocator's
    not_block : (block ≡ a.allocates → a.allocation < at) → v ≢ a.block
    not_block behind e =
        let same = same_place m k f rules block at a.allocates a.allocation v i form.asking.allocator there
        form.asking.there one (call_gives form.asking.allocator v (form.asking.given ∙ ap Some (sym e))) in
        let lt : a.allocation < at = behind same.0 in
        let at_is : at ≡ a.allocation = same.1 in
        below lt at_is
      where
        below : a.allocation < at → at ≡ a.allocation → ⊥
        below lt at_is = omega (arith, lt, at_is)

    abbrev held_last : Option ℕ
    held_last = if block == a.begins then (if nat_le at a.begin then Some a.memory else None) else None

    held_not : (name : ℕ) → x.holds block at ≡ Some name → name ≢ v
    held_not name e same = on (block == a.allocates) refl (sym (ap (λ (z : Shape). z.holds block at) p) ∙ e)
      where
        in_begins : (c d : Bool) → (if c then (if d then Some a.memory else None) else None) ≡ Some name → ⊥
        in_begins true true h = let one_name : a.memory ≡ name = cc in not_memory (sym (one_name ∙ same))
        in_begins true false h = absurd (cc)
        in_begins false d h = absurd (cc)

        in_after : (c : Bool) → (block == a.after) ≡ c → (block == a.allocates) ≡ false
            → (if c then Some a.block else held_last) ≡ Some name → ⊥
        in_after true d other h =
            let one_name : a.block ≡ name = cc in
            not_block (λ b. absurd (false≢true (sym other ∙ ap (λ (n : ℕ). n == a.allocates) b ∙ itself a.allocates)))
            (sym (one_name ∙ same))
        in_after false d other h = in_begins (block == a.begins) (nat_le at a.begin) h

        in_allocates : (c : Bool) → nat_lt a.allocation at ≡ c → (if c then Some a.block else None) ≡ Some name → ⊥
        in_allocates true d h =
            let one_name : a.block ≡ name = cc in
            not_block (λ b. ltb-true a.allocation at d) (sym (one_name ∙ same))
        in_allocates false d h = absurd (cc)

        on : (c : Bool) → (block == a.allocates) ≡ c
            → (if c then (if nat_lt a.allocation at then Some a.block else None)
            else if block == a.after then Some a.block else held_last) ≡ Some name → ⊥
        on true d h = in_allocates (nat_lt a.allocation at) refl h
        on false d h = in_after (block == a.after) refl d h

    pub sets_plain : SetsPlain f x block at i v
    sets_plain = record {
      low = low_name m k f rules block at v i there one;
      need = sets_need;
      freed = sets_freed;
      tested = sets_tested;
      kept = held_not;
    }

  -- ---- phis and parameters give none

  no_answer_of : (v : ℕ) → (IsGiven f v → ⊥) → (x.need v ≡ false) × (x.freed v ≡ false) × (x.tested v ≡ None)
  no_answer_of v none = (
    not_true (x.need v) (λ e. none (need_given v e)),
    not_true (x.freed v) (λ e. let y = freed_by v e in
        none (record { block = y.block; at = y.at; instr = y.instr; there = y.there; gives = y.gives })),
    not_some (x.tested v) (λ b e. none (tested_given v b e)),
  )

  phi_no_answer : (other : ℕ) (z : Phi) → IsListed z (phis_at f other) → IsGiven f z.result → ⊥
  phi_no_answer other z l y = of_listed (λ (w : Phi). w.result ≡ z.result → ⊥) (phis_at f other)
      (no_phi_gives m k f rules y.block y.at z.result y.instr y.there y.gives other) z l refl

  pub phi_answers : (other : ℕ) (z : Phi) → IsListed z (phis_at f other) → IsNoAnswer x z.result
  phi_answers other z l =
      let y = no_answer_of z.result (phi_no_answer other z l) in
      record { need = y.0; freed = y.1; tested = y.2 }

  -- ---- the name of an alloca is none of the shape's

  pub plain_alloca : (place name align : ℕ) (ty : Ty) (ramp given : Bool)
      → slice_get (instrs_of f 0) place ≡ Some (Instr.Alloca name ty align) → differs_in x ramp given name ≡ false
  plain_alloca place name align ty ramp given there =
      (λ z. (ramp && (need z || made z)) || (given && (freed z || (is_some (tested z) || passed z)))) ∙ last ramp given
    where
      i : Instr
      i = Instr.Alloca name ty align

      elsewhere : IsMadeBy f name → ⊥
      elsewhere y = y.inside (sym (same_place m k f rules 0 place y.block y.at name i y.instr there y.there refl
          y.gives).0)

      need : x.need name ≡ false
      need = sets_need 0 place name i there refl refl

      made : x.made name ≡ false
      made = not_true (x.made name) (λ e. ⊎_elim (not_memory 0 place name i there refl) elsewhere (made_given name e))

      freed : x.freed name ≡ false
      freed = sets_freed 0 place name i there refl refl

      tested : x.tested name ≡ None
      tested = sets_tested 0 place name i there refl refl

      passed : x.passed name ≡ false
      passed = not_true (x.passed name) (λ e. elsewhere (passed_given name e))

      last : (r g : Bool) → ((r && (false || false)) || (g && (false || (is_some {T = Bool} None || false)))) ≡ false
      last true true = refl
      last true false = refl
      last false true = refl
      last false false = refl
