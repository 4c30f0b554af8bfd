-- What splitting asks of a coroutine's calls, of one whose edges have blocks.
use Rattle.std.proofs.Common.{◌≡◌, inl, inr, ℕ, zero, suc, Bool, true, false, List, [], ◌∷◌, refl, sym, ap, ◌∙◌, subst, arith}
use Rattle.std.specs.Prelude.{Some, None, Option, filter, map, slice_get, if◌then◌else◌, ◌||◌, ◌==◌}
use Rattle.pass_early_proof.proofs.rule_laws.frames.crossing.Defined.{switch_leads}
use Rattle.pass_early_proof.specs.ir_laws.facts.crossing.Crossed.{is_switch}
use Rattle.pass_early_proof.specs.rule_shape.OneOfEach.{wrong_call}
use Rattle.pass_early_proof.specs.rule_shape.Switches.{wrong_switch}
use Rattle.pass_early_proof.proofs.ir_laws.facts.Truth.{equal_numbers, itself}
use Rattle.pass_early_proof.proofs.rule_laws.rules.source_rules.Locals.{own_label}
use Rattle.pass_edges_proof.proofs.edges.rules.Kept.{rules_kept, suspend_blocks}
use Rattle.pass_edges_proof.proofs.edges.rules.Switched.{switched}
use Rattle.pass_early_proof.specs.rule_laws.frames.rows.Returns.{HaveOwnReturns, return_labels}
use Rattle.pass_early_proof.specs.ir_laws.paths.rows.Returns.{IsOwnBlock, LeadsFrom}
use Rattle.pass_edges_proof.proofs.edges.shape.Kept.{begin_kept, calls_kept, same_calls, switches_kept}
use Rattle.pass_early_proof.proofs.rule_laws.frames.spared.Tokens.{same_tokens}
use Rattle.pass_edges.specs.EdgeBlocks.{with_edge_blocks}
use Rattle.pass_early_proof.specs.rule_phis.Edges.{has, leads}
use Rattle.pass_early_proof.specs.flow_solver.Paths.{IsListed}
use Rattle.pass_early_proof.proofs.rule_laws.rules.known_labels.Known.{labels_known}
use Rattle.pass_early_proof.proofs.rule_laws.rules.shape.Begin.{begin_result}
use Rattle.pass_early_proof.proofs.rule_laws.rules.shape.Beginning.{begins_made, begun_where, none_without}
use Rattle.pass_edges_proof.proofs.edges.calls.Fetched.{call_suspends}
use Rattle.pass_edges_proof.proofs.edges.calls.Moved.{without_stays}
use Rattle.pass_early_proof.proofs.rule_laws.frames.shape.Points.{destroy_listed, point_from, resume_listed}
use Rattle.pass_early_proof.proofs.rule_laws.rules.shape.Stands.{begin_stands}
use Rattle.pass_early_proof.proofs.rule_laws.frames.shape.Tokens.{tokens_different}
use Rattle.pass_early_proof.specs.ir_parts.Contents.{ending_labels}
use Rattle.pass_early_proof.specs.rule_laws.rules.function_rules.Kept.{KeepsFunctionRules}
use Rattle.pass_early_proof.specs.pass_intrinsics.Shapes.{suspends_of}
use Rattle.pass_early_proof.specs.pass_intrinsics.declared.shape.SuspendPoint.{SuspendPoint}
use Rattle.ir_model.specs.Calls.{first_result}
use Rattle.ir_model.specs.Names.{position_of}
use Rattle.ir_model.specs.declared.module.Block.{Block}
use Rattle.ir_model.specs.declared.module.Function.{Function}
use Rattle.ir_model.specs.declared.module.Module.{Module}
use Rattle.ir_model.specs.declared.operand.Intrinsic.{Intrinsic}
use Rattle.pass_early_proof.specs.ir_paths.Windows.{instr_at, instr_in, label_of_term}
use Rattle.pass_early_proof.specs.ir_paths.declared.point.Point.{Point}
use Rattle.pass_early_proof.specs.rule_laws.rules.replaced.Splittable.{AreBlocksBegun}
use Rattle.pass_early_proof.specs.rule_laws.frames.replaced.Splittable.{HasOwnEdges, IsLedToBy}
use Rattle.pass_early_proof.specs.run_laws.changed.Changed.{Each}
use Rattle.pass_early_proof.specs.rule_windows.Outside.{IsFirstOutside}
use Rattle.pass_early_proof.specs.rule_windows.Windows.{IsFirstWindow}
use Rattle.pass_early_proof.proofs.ir_laws.paths.woven_rules.Unbroken.{each_listed}
use Rattle.pass_early_proof.specs.ir_laws.paths.woven_rules.Pairs.{AreDifferent}
use Rattle.pass_early_proof.specs.rule_laws.frames.woven_shape.Shaped.{IsShaped}
use Rattle.pass_early_proof.proofs.rule_laws.rules.shape.Edges.{targets_are}

-- ---- one element passes a test

filter_none : (t : Block → Bool) (bs : List Block) → ((j : ℕ) (c : Block) → slice_get bs j ≡ Some c → t c ≡ true → ⊥) → filter t bs ≡ []
filter_none t [] h = refl
filter_none t (b ∷ bs) h = on (t b) refl (filter_none t bs (λ j c. h (suc j) c))
  where
    on : (s : Bool) → t b ≡ s → filter t bs ≡ [] → (if s then b ∷ filter t bs else filter t bs) ≡ []
    on true e rest = absurd (h 0 b refl e)
    on false e rest = rest

filter_one : (t : Block → Bool) (bs : List Block) (k : ℕ) (b : Block) → slice_get bs k ≡ Some b → t b ≡ true → ((j : ℕ) (c : Block) → slice_get bs j ≡ Some c → t c ≡ true → j ≡ k) → filter t bs ≡ b ∷ []
filter_one t [] k b e p h = absurd (cc)
filter_one t (c ∷ bs) zero b e p h =
    let one : c ≡ b = cc in
    ap (λ (s : Bool). if s then c ∷ filter t bs else filter t bs) (ap t one ∙ p)
    ∙ (λ i. one i ∷ filter_none t bs (λ j d got q. let z : suc j ≡ 0 = h (suc j) d got q in absurd (omega (arith, z))) i)
filter_one t (c ∷ bs) (suc k) b e p h = on (t c) refl (filter_one t bs k b e p (λ j d got q. let z : suc j ≡ suc k = h (suc j) d got q in omega (arith, z)))
  where
    on : (s : Bool) → t c ≡ s → filter t bs ≡ b ∷ [] → (if s then c ∷ filter t bs else filter t bs) ≡ b ∷ []
    on true q rest = let z : 0 ≡ suc k = h 0 c refl q in absurd (omega (arith, z))
    on false q rest = rest

has_at : (ns : List ℕ) (l : ℕ) → has ns l ≡ true → (at : ℕ) × (slice_get ns at ≡ Some l)
has_at [] l h = absurd (cc)
has_at (n ∷ ns) l h = on (n == l) refl h (has_at ns l)
  where
    on : (b : Bool) → (n == l) ≡ b → (b || has ns l) ≡ true → (has ns l ≡ true → (at : ℕ) × (slice_get ns at ≡ Some l)) → (at : ℕ) × (slice_get (n ∷ ns) at ≡ Some l)
    on true e d rest = (0, ap (λ (x : ℕ). Some x) (equal_numbers n l e))
    on false e d rest = let r = rest d in (suc r.0, r.1)

listed_has : (ns : List ℕ) (l : ℕ) → IsListed l ns → has ns l ≡ true
listed_has [] l h = absurd h
listed_has (n ∷ ns) l (inl e) = ap (λ (b : Bool). b || has ns l) (ap (λ (x : ℕ). x == l) (sym e) ∙ itself l)
listed_has (n ∷ ns) l (inr h) = ap (λ (b : Bool). (n == l) || b) (listed_has ns l h) ∙ or_true (n == l)
  where
    or_true : (b : Bool) → (b || true) ≡ true
    or_true true = refl
    or_true false = refl

leads_from : (f : Function) (j : ℕ) (c : Block) (l : ℕ) → slice_get f.blocks j ≡ Some c → leads l c ≡ true → (at : ℕ) × LeadsFrom f j at l
leads_from f j c l got h =
    let x = has_at (ending_labels c.term) l h in
    (x.0, record { block = c; got = got; target = ap (λ (ns : List ℕ). slice_get ns x.0) (targets_are c.term) ∙ x.1 })

module _ (m : Module) (k : ℕ) (f : Function) (rules : KeepsFunctionRules m k f) (coroutine : f.coroutine ≡ true) (own : HaveOwnReturns f) (switches : wrong_switch k f ≡ None) where
  -- ---- a block of its own is led to by the suspend's block alone

  led_to : (label : ℕ) → IsListed label (return_labels (suspends_of f)) → (q : ℕ) (b : Block) → slice_get f.blocks q ≡ Some b → leads label b ≡ true → IsLedToBy f label b.label
  led_to label l q b got there =
      let x : IsOwnBlock f label = own.own label l in
      let mine = leads_from f q b label got there in
      record {
        phis = λ at c e same.
            let place : position_of f label ≡ at = ap (position_of f) (sym same) ∙ own_label k f rules.definitions at c e in
            let both : Some x.block ≡ Some c = sym x.got ∙ ap (slice_get f.blocks) place ∙ e in
            let one : x.block ≡ c = cc in
            ap (λ (d : Block). d.phis) (sym one) ∙ x.no_phis;
        sources = ap (map (λ (c : Block). c.label)) (filter_one (leads label) f.blocks q b got there (λ j c e d. let other = leads_from f j c label e d in (x.once j other.0 q mine.0 other.1 mine.1).0));
      }

  switch_there : (q : ℕ) (b : Block) (n at : ℕ) → is_switch b.term ≡ true → leads (label_of_term n b.term) b ≡ true
  switch_there q b n at s = listed_has (ending_labels b.term) (label_of_term n b.term) (subst (λ (ls : List ℕ). IsListed (label_of_term n b.term) ls) (targets_are b.term) (switch_leads n b.term s))

  own_edges : (p : SuspendPoint) → IsListed p (suspends_of f) → HasOwnEdges f p
  own_edges p l =
      let x = point_from f p l in
      let w = switched k f coroutine switches x.position x.at x.block x.instr x.got x.there (call_suspends x.instr x.suspends) in
      let s : is_switch x.block.term ≡ true = ap is_switch w.is in
      record {
        resume =
            subst (IsLedToBy f p.resume) (sym x.is_of.block)
            (led_to p.resume (resume_listed (suspends_of f) p l) x.position x.block x.got (ap (λ (n : ℕ). leads n x.block) x.is_of.resume ∙ switch_there x.position x.block 0 x.at s));
        destroy =
            subst (IsLedToBy f p.destroy) (sym x.is_of.block)
            (led_to p.destroy (destroy_listed (suspends_of f) p l) x.position x.block x.got (ap (λ (n : ℕ). leads n x.block) x.is_of.destroy ∙ switch_there x.position x.block 1 x.at s));
      }

  pub all_own_edges : Each (HasOwnEdges f) (suspends_of f)
  all_own_edges = each_listed (HasOwnEdges f) (suspends_of f) own_edges

-- ---- all of it

edges_begun : (m : Module) (k : ℕ) (f : Function) (begin : ℕ) → KeepsFunctionRules m k f → f.coroutine ≡ true → wrong_call k f ≡ None → wrong_switch k f ≡ None → IsFirstOutside k f None → first_result Intrinsic.CoroBegin (with_edge_blocks f) ≡ Some begin → AreBlocksBegun (with_edge_blocks f) begin 0 (with_edge_blocks f).blocks
edges_begun m k f begin rules coroutine calls switches outside named =
    let g : Function = with_edge_blocks f in
    let s = begin_stands g begin named in
    let q : Point = record { block = s.position; at = s.at } in
    let there : instr_at g q ≡ Some s.instr = ap (λ (o : Option Block). instr_in o s.at) s.got ∙ s.there in
    begun_where g begin
    (without_stays f (labels_known k f rules.tabled m rules.known) (none_without k f coroutine outside))
    (begins_made k g begin coroutine (calls_kept m k f rules coroutine calls switches) q s.instr there s.calls (begin_result s.instr s.calls ∙ s.makes))

pub edges_shaped : (m : Module) (k : ℕ) (f : Function) (begin : ℕ) → KeepsFunctionRules m k f → f.coroutine ≡ true → wrong_call k f ≡ None → wrong_switch k f ≡ None → IsFirstOutside k f None → IsFirstWindow k f None → first_result Intrinsic.CoroBegin f ≡ Some begin → IsShaped k (with_edge_blocks f) begin
edges_shaped m k f begin rules coroutine calls switches outside window named =
    let now : first_result Intrinsic.CoroBegin (with_edge_blocks f) ≡ Some begin = begin_kept m k f rules coroutine calls switches ∙ named in
    record {
      calls = calls_kept m k f rules coroutine calls switches;
      switches = switches_kept m k f rules coroutine calls switches;
      named = now;
      begun = edges_begun m k f begin rules coroutine calls switches outside now;
      tokens = subst AreDifferent (sym (same_tokens f (with_edge_blocks f) (same_calls m k f rules coroutine calls switches))) (tokens_different m k f rules coroutine window);
      edges = all_own_edges m k (with_edge_blocks f) (rules_kept m k f rules) coroutine (suspend_blocks m k f rules coroutine switches) (switches_kept m k f rules coroutine calls switches);
    }
