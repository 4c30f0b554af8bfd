-- A coroutine that has the shape of its form has what elision asks of it, by rules.
use Rattle.std.proofs.Common.{◌≡◌, ◌≢◌, ◌⊎◌, inl, inr, ⊎_elim, ◌<◌, ◌^◌, ℕ, Bool, true, false, List, [], ◌∷◌, length, refl, sym, ap, ◌∙◌, subst, arith}
use Rattle.std.proofs.lemmas.Bool.{false≢true}
use Rattle.std.specs.Prelude.{None, Option, Some, slice_get, if◌then◌else◌, ◌==◌}
use Rattle.elide_shape.specs.Calls.{deals_by}
use Rattle.elide_shape.specs.declared.calls.Dealing.{Dealing}
use Rattle.pass_elide_edges.specs.Keeping.{EntersAlone, HasEdge, SetsKnown}
use Rattle.pass_elide_kept.specs.Modules.{LeadsOut, PassesAllocation, PassesFree}
use Rattle.pass_elide_known.specs.Keeping.{GiveOnce, KeepsAside, KeepsFreeing, KeepsTest, only_sets}
use Rattle.pass_elide_edges.specs.pass_elide_proof.Assembling.{WaitsBehind}
use Rattle.pass_elide_edges.specs.pass_elide_proof.Calling.{IsSetApart, StartsAlike}
use Rattle.pass_elide_edges.specs.pass_elide_proof.Edges.{phis_at}
use Rattle.pass_elide_edges.specs.pass_elide_proof.Elision.{Elision, Shape, function_in}
use Rattle.pass_elide_edges.specs.pass_elide_proof.Match.{frame_size}
use Rattle.pass_elide_edges.specs.pass_elide_proof.NullTests.{AreWithNull}
use Rattle.pass_elide_edges.specs.pass_elide_proof.Places.{instrs_in, instrs_of}
use Rattle.pass_elide_edges.specs.pass_elide_proof.Placing.{HasShape}
use Rattle.pass_elide_edges.specs.pass_elide_proof.Waking.{GivesNone, IsFreedName, WakesAlike}
use Rattle.pass_elide_ready.proofs.Apart.{IsBehind, after_frees_none, after_waits_none, aside_is, behind_frees_none, behind_waits_none, enters_alone, waits_behind}
use Rattle.pass_elide_ready.proofs.Asked.{allocates_is, asks_for_frame, asks_is, beside_is, waits_there}
use Rattle.pass_elide_ready.proofs.Entries.{ending, no_edge_back}
use Rattle.pass_elide_ready.proofs.Formed.{IsGiven, freed_by, need_given, phi_answers, tested_begins_not, tested_by, tested_given}
use Rattle.pass_elide_ready.proofs.FreedForm.{first_edge, freed_there, frees_frame, jump_edge, not_asked, passed_after, passed_beside}
use Rattle.pass_elide_ready.proofs.Listed.{IsFound, found, tests_are}
use Rattle.pass_elide_ready.proofs.Modules.{all_rules, begins}
use Rattle.pass_elide_ready.proofs.Names.{at_point, no_param_gives, no_phi_gives, phis_low, same_one, same_place}
use Rattle.pass_elide_ready.specs.Form.{Asking, AsksSo, Freeing, IsFormed}
use Rattle.pass_elide_ready.specs.Ruled.{IsRuled}
use Rattle.pass_elide_edges.proofs.pass_elide_proof.pass_proofs.ir_laws.facts.Truth.{equal_numbers, itself}
use Rattle.pass_elide_edges.proofs.pass_elide_proof.pass_proofs.ir_laws.paths.woven_rules.Unbroken.{each_listed, of_listed}
use Rattle.pass_elide_edges.proofs.pass_elide_proof.pass_proofs.rule_laws.rules.source_rules.Once.{one_begin}
use Rattle.pass_elide_edges.proofs.pass_elide_proof.pass_proofs.rule_laws.rules.sources.Places.{point}
use Rattle.pass_elide_edges.specs.pass_elide_proof.pass_proofs.flow_blocks.Reach.{IsReached as IsReachedBlock}
use Rattle.pass_elide_edges.specs.pass_elide_proof.pass_proofs.ir_base.declared.ops.Pred.{Pred}
use Rattle.pass_elide_edges.specs.pass_elide_proof.pass_proofs.ir_model.Names.{position_of}
use Rattle.pass_elide_edges.specs.pass_elide_proof.pass_proofs.ir_model.Ty.{Ty, ptr}
use Rattle.pass_elide_edges.specs.pass_elide_proof.pass_proofs.ir_model.declared.instr.Instr.{Instr}
use Rattle.pass_elide_edges.specs.pass_elide_proof.pass_proofs.ir_model.declared.instr.Phi.{Phi}
use Rattle.pass_elide_edges.specs.pass_elide_proof.pass_proofs.ir_model.declared.module.Block.{Block}
use Rattle.pass_elide_edges.specs.pass_elide_proof.pass_proofs.ir_model.declared.module.Function.{Function}
use Rattle.pass_elide_edges.specs.pass_elide_proof.pass_proofs.ir_model.declared.operand.Callee.{Callee}
use Rattle.pass_elide_edges.specs.pass_elide_proof.pass_proofs.ir_model.declared.operand.Intrinsic.{Intrinsic}
use Rattle.pass_elide_edges.specs.pass_elide_proof.pass_proofs.ir_model.declared.operand.Operand.{Operand}
use Rattle.pass_elide_edges.specs.pass_elide_proof.pass_proofs.ir_paths.Windows.{is_call_of}
use Rattle.pass_elide_edges.specs.pass_elide_proof.pass_proofs.ir_paths.declared.point.Point.{Point}
use Rattle.pass_elide_edges.specs.pass_elide_proof.pass_proofs.rule_laws.rules.function_rules.Kept.{KeepsFunctionRules}
use Rattle.pass_elide_edges.specs.pass_elide_proof.pass_proofs.run_laws.changed.Changed.{Each}
use Rattle.pass_elide_edges.specs.pass_elide_proof.pass_proofs.run_step.Step.{AtTerm, by_pred, fetch}
use Rattle.pass_split_proof.proofs.ready.Entering.{coroutine_there}

-- ---- edges as ends of blocks

edge_of : (f : Function) (block label : ℕ) → LeadsOut f block label → HasEdge f block label
edge_of f block label o = record {
  term = o.block.term;
  stands = subst (λ (n : ℕ). fetch f block n ≡ AtTerm o.block.term)
      (sym (ap (λ (b : Option Block). length (instrs_in b)) o.there)) (ending f block o.block o.there);
  leads = o.among;
}

frees_begins_not : (i : Instr) → is_call_of Intrinsic.CoroFree i ≡ true → is_call_of Intrinsic.CoroBegin i ≡ false
frees_begins_not (Instr.Call result must_tail ty (Callee.Intrinsic Intrinsic.CoroFree) args) e = refl
frees_begins_not _ e = absurd (false≢true e)

pub not_none : {A : Type 0} (o : Option A) → ((y : A) → o ≡ Some y → ⊥) → o ≡ None
not_none None h = refl
not_none (Some y) h = absurd (h y refl)

answer_by : (b : Bool) (pred : Pred) → pred ≡ (if b then Pred.Eq else Pred.Ne) → b ≡ by_pred pred true
answer_by true pred e = sym (ap (λ (q : Pred). by_pred q true) e)
answer_by false pred e = sym (ap (λ (q : Pred). by_pred q true) e)

module _ (e : Elision) (ruled : IsRuled e.code) (func : ℕ) (w : IsFormed e func) where
  abbrev f : Function
  f = function_in e func

  abbrev a : Asking
  a = w.asking

  abbrev qs : List Freeing
  qs = w.freeing

  abbrev s : AsksSo f a
  s = w.form.asking

  pub there : slice_get e.code.functions func ≡ Some f
  there = coroutine_there e.code func w.form.coroutine

  pub rules : KeepsFunctionRules e.code func f
  rules = all_rules e.code ruled func f there

  -- ---- the shape

  abbrev pub has_shape : frame_size e func < 2 ^ 32 → HasShape e func
  has_shape small = record {
    coroutine = w.form.coroutine;
    asks = asks_for_frame f a qs s (e.shape func) w.shape;
    waits = λ block other told.
        (waits_there f a qs s (e.shape func) w.shape block other told).0;
    need = λ block at v i stands asks gives.
        ap (λ (x : Shape). x.need v) w.shape
        ∙ ap (λ (u : ℕ). u == a.need) (s.asks_once block at v i stands asks gives) ∙ itself a.need;
    freed = λ block at v i stands frees gives.
        ap (λ (x : Shape). x.freed v) w.shape ∙ freed_there f block at v i stands frees gives;
    begun = λ block at i stands begins.
        let x = ruled.coroutines func f there w.form.coroutine in
        let same : point block at ≡ point a.begins a.begin =
        one_begin func f w.form.coroutine x.calls (point block at) (point a.begins a.begin) i s.start
        (at_point f block at i stands) (at_point f a.begins a.begin s.start s.is_start) begins s.is_begin in
        (ap (λ (p : Point). p.block) same, ap (λ (p : Point). p.at) same);
    small = let lt = small in omega (arith, lt);
    bare = s.bare;
    empty = s.bare_after;
    empty_beside = s.bare_beside;
    untested = not_none ((e.shape func).tested a.need) (λ b told.
        let y = tested_by e.code func f rules a qs w.form (e.shape func) w.shape a.need b told in
        not_asked e.code func f rules a qs w.form (e.shape func) w.shape y.element (w.form.freeing y.element y.listed)
        (equal_numbers y.element.tested a.need y.passes));
  }

  pub form_waits_behind : WaitsBehind f (e.shape func)
  form_waits_behind = waits_behind e.code func f rules a qs w.form (e.shape func) w.shape

  pub form_enters_alone : EntersAlone f (e.shape func)
  form_enters_alone = enters_alone e.code func f rules a qs w.form (e.shape func) w.shape

  -- ---- where it is entered

  set_apart : (v : ℕ) → IsSetApart (e.shape func) v → IsGiven f v
  set_apart v (inl need) = need_given e.code func f rules a qs w.form (e.shape func) w.shape v need
  set_apart v (inr (inl freed)) =
      let y = freed_by e.code func f rules a qs w.form (e.shape func) w.shape v freed in
      record { block = y.block; at = y.at; instr = y.instr; there = y.there; gives = y.gives }
  set_apart v (inr (inr tested)) =
      tested_given e.code func f rules a qs w.form (e.shape func) w.shape v tested.0 tested.1

  pub starts_alike : StartsAlike e func
  starts_alike = record {
    coroutine = w.form.coroutine;
    params = λ v apart.
        let y = set_apart v apart in
        no_param_gives e.code func f rules y.block y.at v y.instr y.there y.gives;
    holds = (asks_for_frame f a qs s (e.shape func) w.shape).free_elsewhere 0 0
        (λ first. entered a.asks a.one a.allocates
        (first_edge f a.asks a.one a.other (Operand.Local a.need) s.branch) s.to_allocator (sym first))
        (λ first. entered a.allocates s.jumps.label a.after (jump_edge f a.allocates a.after s.jumps) s.jumps.leads
        (sym first))
        (λ first. entered a.after s.joins.label a.begins (jump_edge f a.after a.begins s.joins) s.joins.leads
        (sym first));
  }
    where
      entered : (block label to : ℕ) → HasEdge f block label → position_of f label ≡ to → to ≢ 0
      entered block label to edge leads first = no_edge_back e.code func f rules block label edge (leads ∙ first)

  -- what coro.free gives is no name of begin's, nor of a phi
  freed_name : (v : ℕ) → IsFreedName (e.shape func) v
      → (y : IsGiven f v) × (is_call_of Intrinsic.CoroBegin y.instr ≡ false)
  freed_name v (inl freed) =
      let y = freed_by e.code func f rules a qs w.form (e.shape func) w.shape v freed in (
        record { block = y.block; at = y.at; instr = y.instr; there = y.there; gives = y.gives },
        frees_begins_not y.instr y.frees,
      )
  freed_name v (inr tested) = (
    tested_given e.code func f rules a qs w.form (e.shape func) w.shape v tested.0 tested.1,
    tested_begins_not e.code func f rules a qs w.form (e.shape func) w.shape v tested.0 tested.1,
  )

  pub wakes_alike : GivesNone e func → WakesAlike e func
  wakes_alike none = record {
    none = none;
    begins = λ v name begin.
        let y = freed_name v name in
        false≢true (sym y.1 ∙ (begins e.code ruled func).alone y.0.block y.0.at v y.0.instr begin y.0.there y.0.gives);
    phis = λ v name other.
        let y = (freed_name v name).0 in
        no_phi_gives e.code func f rules y.block y.at v y.instr y.there y.gives other;
  }

  -- ---- blocks that are passed by

  pub passes_allocation : (k : HasShape e func) → PassesAllocation e func k
  passes_allocation k = record {
    entered = λ other label out leads.
        s.into_allocates other label (edge_of f other label out)
        (leads ∙ allocates_is f a qs s (e.shape func) w.shape k.asks)
        ∙ sym (asks_is f a qs s (e.shape func) w.shape k.asks);
    apart = λ same. s.apart_beside (sym (beside_is f a qs s (e.shape func) w.shape k.asks) ∙ same
        ∙ allocates_is f a qs s (e.shape func) w.shape k.asks);
  }

  abbrev IsFreeing : ℕ → ℕ → Type 0
  IsFreeing block tests = IsFound (λ (d : Freeing). d.frees == block) (λ (d : Freeing). d.tests) qs tests

  frees_by : (block tests : ℕ) → (e.shape func).frees block ≡ Some tests → IsFreeing block tests
  frees_by block tests told = found (λ (d : Freeing). d.frees == block) (λ (d : Freeing). d.tests) qs tests
      (sym (tests_are qs block) ∙ sym (ap (λ (x : Shape). x.frees block) w.shape) ∙ told)

  pub passes_free : (block tests : ℕ) → (e.shape func).frees block ≡ Some tests → PassesFree e func block
  passes_free block tests told =
      let y = frees_by block tests told in
      let q : Freeing = y.element in
      let t = w.form.freeing q y.listed in
      let same : q.frees ≡ block = equal_numbers q.frees block y.passes in
      record {
        frees = frees_frame e.code func f rules a qs w.form (e.shape func) w.shape q y.listed;
        is = same;
        entered = λ other label out leads. t.into_frees other label (edge_of f other label out) (leads ∙ sym same);
        apart = λ b. t.apart (b ∙ sym same);
        calm = λ at i stands. t.calm at i (subst (λ (n : ℕ). slice_get (instrs_of f n) at ≡ Some i) (sym same) stands);
      }

  -- ---- what stands there

  pub keeps_freeing : (block tests : ℕ) → (e.shape func).frees block ≡ Some tests → KeepsFreeing e func block
  keeps_freeing block tests told =
      let y = frees_by block tests told in
      let q : Freeing = y.element in
      let t = w.form.freeing q y.listed in
      let same : q.frees ≡ block = equal_numbers q.frees block y.passes in
      record {
        frees = frees_frame e.code func f rules a qs w.form (e.shape func) w.shape q y.listed;
        here = sym same;
        instrs = subst (λ (n : ℕ). IsReachedBlock f (0 ∷ []) [] n → (k : ℕ)
            (i : Instr) → slice_get (instrs_of f n) k ≡ Some i
            → (only_sets i ≡ true) ⊎ (deals_by Dealing.Frees i ≡ true)) same t.instrs;
      }

  pub keeps_test : (block at name : ℕ) (pred : Pred) (ty : Ty) (x y : Operand) (is_eq : Bool)
      → slice_get (instrs_of f block) at ≡ Some (Instr.Icmp name pred ty x y)
      → (e.shape func).tested name ≡ Some is_eq → KeepsTest e func name pred ty x y
  keeps_test block at name pred ty x y is_eq stands told =
      let z = tested_by e.code func f rules a qs w.form (e.shape func) w.shape name is_eq told in
      let q : Freeing = z.element in
      let t = w.form.freeing q z.listed in
      let i : Instr = Instr.Icmp name pred ty x y in
      let j : Instr = Instr.Icmp q.tested (if q.is_eq then Pred.Eq else Pred.Ne) ptr t.left t.right in
      let same : i ≡ j = same_one e.code func f rules block at q.tests t.test name i j stands t.is_test refl
      (ap Some (equal_numbers q.tested name z.passes)) in
      let types : ty ≡ ptr = cc in
      let lefts : x ≡ t.left = cc in
      let rights : y ≡ t.right = cc in
      let preds : pred ≡ (if q.is_eq then Pred.Eq else Pred.Ne) = cc in
      record {
        pointers = types;
        freed = q.freed;
        is_freed = ap (λ (v : Shape). v.freed q.freed) w.shape
            ∙ freed_there f q.tests t.free q.freed t.freeing t.is_free t.is_freeing t.gives;
        operands = subst (λ (u : Operand). AreWithNull q.freed u y) (sym lefts)
            (subst (AreWithNull q.freed t.left) (sym rights) t.with_null);
        tested = told ∙ ap Some (sym z.value_is ∙ answer_by q.is_eq pred preds);
      }

  -- ---- blocks aside

  once_in : (block : ℕ) → GiveOnce e func block
  once_in block j k v h i here stands one two =
      (same_place e.code func f rules block j block k v h i here stands one two).1

  beside_allocation : (block other : ℕ) → block ≡ a.after → other ≡ a.beside → KeepsAside e func block other
  beside_allocation block other after beside =
      subst (λ (n : ℕ). KeepsAside e func n other) (sym after)
      (subst (KeepsAside e func a.after) (sym beside) (record {
        apart = s.apart_sides;
        many = s.many;
        fetches = s.loads;
        waits = after_waits_none e.code func f rules a qs w.form (e.shape func) w.shape;
        frees = after_frees_none e.code func f rules a qs w.form (e.shape func) w.shape;
        once = once_in a.after;
        once_too = once_in a.beside;
        names = inl (record {
          asks = asks_for_frame f a qs s (e.shape func) w.shape;
          after = refl;
          beside = refl;
        });
      }))

  behind_freeing : (block other : ℕ) → IsBehind f qs block other → KeepsAside e func block other
  behind_freeing block other b =
      let q : Freeing = b.element in
      subst (λ (n : ℕ). KeepsAside e func n other) b.after_is
      (subst (KeepsAside e func q.after) b.beside_is (record {
        apart = b.meets.apart;
        many = b.meets.many;
        fetches = b.meets.loads;
        waits = behind_waits_none e.code func f rules a qs w.form (e.shape func) w.shape q b.listed;
        frees = behind_frees_none e.code func f rules a qs w.form (e.shape func) w.shape q b.listed;
        once = once_in q.after;
        once_too = once_in q.beside;
        names = inr (
          (λ k v i stands one. passed_after e.code func f rules a qs w.form
              (e.shape func) w.shape q b.listed b.meets k v
              i stands one),
          (λ k v i stands one. passed_beside e.code func f rules a qs w.form
              (e.shape func) w.shape q b.listed b.meets k
              v i stands one),
        );
      }))

  pub keeps_aside : (block other : ℕ) → (e.shape func).aside block ≡ Some other → KeepsAside e func block other
  keeps_aside block other told = ⊎_elim
      (λ (b : (block ≡ a.after) × (other ≡ a.beside)). beside_allocation block other b.0 b.1)
      (behind_freeing block other)
      (aside_is e.code func f rules a qs w.form (e.shape func) w.shape block other told)

  -- ---- phis

  pub sets_known : (block : ℕ) → Each (SetsKnown f (e.shape func)) (phis_at f block)
  sets_known block = each_listed (SetsKnown f (e.shape func)) (phis_at f block) (λ z l. record {
    known = of_listed (λ (y : Phi). y.result < length f.names) (phis_at f block)
        (phis_low e.code func f rules block) z l;
    answers = phi_answers e.code func f rules a qs w.form (e.shape func) w.shape block z l;
  })
