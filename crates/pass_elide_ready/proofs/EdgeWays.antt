-- What is freed when a coroutine is destroyed is so where edges have blocks.
use Rattle.std.proofs.Common.{◌≡◌, ◌⊎◌, inl, inr, ⊎_elim, ◌+◌, ℕ, zero, suc, Bool, true, false, List, [], ◌∷◌, length, refl, sym, ap, ◌∙◌, subst}
use Rattle.std.proofs.lemmas.Bool.{false≢true}
use Rattle.std.specs.List.{list_any}
use Rattle.std.specs.Prelude.{IsFalse, IsTrue, None, Option, Some, not, slice_get, if◌then◌else◌}
use Rattle.elide_shape.specs.Edges.{edges_of}
use Rattle.elide_shape.specs.declared.edges.Edge.{Edge}
use Rattle.elide_sites.specs.Destroyed.{FreesWhenDestroyed, IsLed, IsOn, has_at, has_in, is_free, is_start, is_stop, passes, starts, targets_of}
use Rattle.elide_sites.specs.Destroyed.IsLed.{Start, Step}
use Rattle.elide_sites.specs.declared.destroyed.Way.{Way}
use Rattle.pass_elide_ready.specs.Ways.{HasSameWays}
use Rattle.pass_elide_ready.proofs.EdgeRows.{IsEdgeOf, begins_there, begun, edge_at, edge_is, edge_listed}
use Rattle.pass_elide_edges.proofs.pass_elide_proof.pass_proofs.edges.paths.Blocks.{get_none, position_edge, position_moved, spot}
use Rattle.pass_elide_edges.proofs.pass_elide_proof.pass_proofs.edges.paths.Edges.{edges_of_block}
use Rattle.pass_elide_edges.proofs.pass_elide_proof.pass_proofs.edges.paths.Whole.{first_moved}
use Rattle.pass_elide_edges.proofs.pass_elide_proof.pass_proofs.edges.rules.Homes.{IsEdge, IsOwn, IsTarget, edge_target, edge_there, home, own_block, own_there, spots_apart, spots_no_edge, target_home, target_low}
use Rattle.pass_elide_edges.specs.pass_elide_proof.pass_proofs.edges.paths.Labels.{IsSplit}
use Rattle.pass_elide_edges.specs.pass_elide_proof.pass_proofs.edges.paths.Spots.{table_of}
use Rattle.pass_elide_edges.specs.pass_elide_proof.pass_proofs.flow_blocks.Kinds.{is_value, kind_at, kind_in, kind_of, kind_of_case, kind_of_ending, suspended}
use Rattle.pass_elide_edges.specs.pass_elide_proof.pass_proofs.flow_blocks.declared.kinds.EdgeKind.{EdgeKind}
use Rattle.pass_elide_edges.specs.pass_elide_proof.pass_proofs.flow_solver.Paths.{IsListed}
use Rattle.pass_elide_edges.specs.pass_elide_proof.pass_proofs.ir_laws.paths.threads.Labels.{HasNamedLabels}
use Rattle.pass_elide_edges.specs.pass_elide_proof.pass_proofs.ir_model.Names.{position_of}
use Rattle.pass_elide_edges.specs.pass_elide_proof.pass_proofs.ir_model.declared.instr.Case.{Case}
use Rattle.pass_elide_edges.specs.pass_elide_proof.pass_proofs.ir_model.declared.instr.Instr.{Instr}
use Rattle.pass_elide_edges.specs.pass_elide_proof.pass_proofs.ir_model.declared.instr.Terminator.{Terminator}
use Rattle.pass_elide_edges.specs.pass_elide_proof.pass_proofs.ir_model.declared.module.Block.{Block}
use Rattle.pass_elide_edges.specs.pass_elide_proof.pass_proofs.ir_model.declared.module.Function.{Function}
use Rattle.pass_elide_edges.specs.pass_elide_proof.pass_proofs.ir_model.declared.operand.Intrinsic.{Intrinsic}
use Rattle.pass_elide_edges.specs.pass_elide_proof.pass_proofs.ir_paths.Paths.{targets}
use Rattle.pass_elide_edges.specs.pass_elide_proof.pass_proofs.ir_paths.Windows.{end_block, is_call_of}
use Rattle.pass_elide_edges.specs.pass_elide_proof.pass_proofs.pass_edges.EdgeBlocks.{edge_block, split_cases, split_term, with_edge_blocks}
use Rattle.pass_elide_edges.specs.pass_elide_proof.pass_proofs.pass_edges.Edges.{after_edge, phi_flags}
use Rattle.pass_elide_edges.specs.pass_elide_proof.pass_proofs.pass_edges.declared.edge.Edge.{Edge as OwnEdge}

-- ---- kinds stay

case_kind : (flags : List Bool) (resumes : Bool) (n : ℕ) (cases : List Case) (at : ℕ)
    → kind_of_case (slice_get (split_cases flags resumes n cases) at) ≡ kind_of_case (slice_get cases at)
case_kind flags resumes n [] at = refl
case_kind flags resumes n (k ∷ ks) zero = refl
case_kind flags resumes n (k ∷ ks) (suc at) = case_kind flags resumes (after_edge flags resumes n k.target) ks at

cases_kind : (flags : List Bool) (resumes : Bool) (n : ℕ) (cases : List Case) (at : ℕ)
    → kind_at (split_cases flags resumes n cases) at ≡ kind_at cases at
cases_kind flags resumes n cases zero = refl
cases_kind flags resumes n cases (suc at) = case_kind flags resumes n cases at

ending_kind : (flags : List Bool) (resumes : Bool) (n : ℕ) (v : Option ℕ) (t : Terminator) (at : ℕ)
    → kind_of_ending v (split_term flags resumes n t) at ≡ kind_of_ending v t at
ending_kind flags resumes n v (Terminator.Jump label) at = refl
ending_kind flags resumes n v (Terminator.Branch c a b) at = refl
ending_kind flags resumes n v (Terminator.Switch arg default cases) at =
    ap (λ (k : EdgeKind). if is_value v arg.value then k else EdgeKind.Ordinary)
    (cases_kind flags resumes (after_edge flags false n default) cases at)
ending_kind flags resumes n v (Terminator.Ret value) at = refl
ending_kind flags resumes n v Terminator.Unreachable at = refl

no_start : (way : Way) → is_start way EdgeKind.Ordinary ≡ true → ⊥
no_start Way.Calm e = false≢true e
no_start Way.Unfreed e = false≢true e
no_start Way.Destroyed e = false≢true e

module _ (f : Function) (named : HasNamedLabels f) where
  abbrev g : Function
  g = with_edge_blocks f

  own_kind : (k : ℕ) (b : Block) (at : ℕ) → kind_in (Some (own_block f k b)) at ≡ kind_in (Some b) at
  own_kind k b at = ending_kind (phi_flags f) _ _ (suspended b.instrs) b.term at

  -- ---- what stands in blocks

  own_has : (test : Instr → Bool) (k : ℕ) → has_at test (with_edge_blocks f) (spot f k) ≡ has_at test f k
  own_has test k = on (slice_get f.blocks k) refl
    where
      on : (o : Option Block) → slice_get f.blocks k ≡ o
          → has_in test (slice_get (with_edge_blocks f).blocks (spot f k)) ≡ has_in test (slice_get f.blocks k)
      on None e = ap (has_in test) (get_none (phi_flags f) (table_of f) k (length f.names) f.blocks e)
          ∙ sym (ap (has_in test) e)
      on (Some b) e = ap (has_in test) (own_there f k b e) ∙ sym (ap (has_in test) e)

  edge_has : (test : Instr → Bool) (k : ℕ) (b : Block) (i : ℕ) (e : OwnEdge) → slice_get f.blocks k ≡ Some b
      → slice_get (edges_of_block f k b) i ≡ Some e → has_at test (with_edge_blocks f) (spot f k + suc i) ≡ false
  edge_has test k b i e there got = ap (has_in test) (edge_there f k b i e there got)

  end_moved : end_block (with_edge_blocks f) ≡ spot f (end_block f)
  end_moved = first_moved (λ (b : Block). list_any (is_call_of Intrinsic.CoroEnd) b.instrs) f
      (λ flags table n b. refl) (λ e. refl)

  -- ---- paths are those of the function, over blocks on edges

  record IsOver (way : Way) (at : ℕ) : Type 0 where
    index : ℕ
    block : Block
    got : slice_get f.blocks index ≡ Some block
    position : ℕ
    edge : OwnEdge
    there : slice_get (edges_of_block f index block) position ≡ Some edge
    stands : at ≡ spot f index + suc position
    led : IsOn way f (position_of f edge.target)

  record IsOwnOn (way : Way) (at : ℕ) : Type 0 where
    index : ℕ
    stands : at ≡ spot f index
    led : IsOn way f index

  abbrev IsBack : Way → ℕ → Type 0
  IsBack way at = IsOwnOn way at ⊎ IsOver way at

  target_listed : (ts : List ℕ) (at t : ℕ) → slice_get ts at ≡ Some t → IsListed t ts
  target_listed [] at t e = absurd (cc)
  target_listed (x ∷ ts) zero t e = let same : x ≡ t = cc in inl (sym same)
  target_listed (x ∷ ts) (suc at) t e = inr (target_listed ts at t e)

  -- where an edge of the function leads then
  leads_to : (way : Way) (k : ℕ) (b : Block) (at target label : ℕ) → slice_get f.blocks k ≡ Some b
      → slice_get (targets b.term) at ≡ Some target
      → IsSplit (phi_flags f) b.label (edges_of_block f k b) target label → IsOn way f (position_of f target)
      → IsBack way (position_of (with_edge_blocks f) label)
  leads_to way k b at target label got there (inl d) led = inl (record {
    index = position_of f target;
    stands = ap (position_of (with_edge_blocks f)) d.0
        ∙ position_moved f target (target_low f named k b target got (target_listed (targets b.term) at target there));
    led = led;
  })
  leads_to way k b at target label got there (inr among) led = inr (record {
    index = k;
    block = b;
    got = got;
    position = among.at;
    edge = record { from = b.label; target = target; label = label };
    there = among.got;
    stands = position_edge f named k b among.at (record { from = b.label; target = target; label = label }) got
        among.got;
    led = led;
  })

  -- an edge from a block of the function
  record IsOwnEdge (e : Edge) : Type 0 where
    index : ℕ
    block : Block
    got : slice_get f.blocks index ≡ Some block
    stands : e.from ≡ spot f index
    at : ℕ
    label : ℕ
    leads : e.to ≡ position_of (with_edge_blocks f) label
    home : IsTarget f index block at label
    kind : e.kind ≡ kind_of f index at

  own_edge : (e : Edge) (x : IsEdgeOf (with_edge_blocks f) e) → IsOwn f e.from x.block → IsOwnEdge e
  own_edge e x own = record {
    index = own.index;
    block = own.block;
    got = own.got;
    stands = own.stands;
    at = x.at;
    label = x.label;
    leads = x.leads;
    home = target_home f own.index own.block x.at x.label
        (sym (ap (λ (c : Block). slice_get (targets c.term) x.at) own.is) ∙ x.target);
    kind = x.kind ∙ ap (λ (c : Block). kind_in (Some c) x.at) own.is ∙ own_kind own.index own.block x.at
        ∙ sym (ap (λ (o : Option Block). kind_in o x.at) own.got);
  }

  -- the edge of the function
  abbrev was : (e : Edge) → IsOwnEdge e → Edge
  was e y = edge_at f y.index y.at y.home.target

  was_listed : (e : Edge) (y : IsOwnEdge e) → IsListed (was e y) (edges_of f)
  was_listed e y = edge_listed f y.index y.block y.at y.home.target y.got y.home.got

  goes_back : (way : Way) (e : Edge) (y : IsOwnEdge e) → IsOn way f (position_of f y.home.target)
      → IsBack way e.to
  goes_back way e y led = subst (IsBack way) (sym y.leads)
      (leads_to way y.index y.block y.at y.home.target y.label y.got y.home.got y.home.split led)

  starts_at : (way : Way) (b : ℕ) → IsListed b (targets_of way (edges_of f)) → IsOn way f b
  starts_at Way.Calm b l = Start b (inr l)
  starts_at Way.Unfreed b l = Start b l
  starts_at Way.Destroyed b l = Start b l

  begins_back : (way : Way) (b : ℕ) → IsListed b (targets_of way (edges_of (with_edge_blocks f))) → IsBack way b
  begins_back way b l =
      let s = begun way (edges_of (with_edge_blocks f)) b l in
      let x = edge_is (with_edge_blocks f) s.edge s.listed in
      subst (IsBack way) (sym s.to) (⊎_elim (by_own s.edge x s.starts) (by_edge s.edge x s.starts)
      (home f s.edge.from x.block x.got))
    where
      by_own : (e : Edge) (x : IsEdgeOf (with_edge_blocks f) e) → is_start way e.kind ≡ true
          → IsOwn f e.from x.block → IsBack way e.to
      by_own e x starts own =
          let y = own_edge e x own in
          goes_back way e y (starts_at way (position_of f y.home.target)
          (begins_there way (edges_of f) (was e y) (was_listed e y)
          (sym (ap (is_start way) y.kind) ∙ starts)))

      by_edge : (e : Edge) (x : IsEdgeOf (with_edge_blocks f) e) → is_start way e.kind ≡ true
          → IsEdge f e.from x.block → IsBack way e.to
      by_edge e x starts on = absurd (no_start way
          (sym (ap (is_start way) (x.kind ∙ ap (λ (c : Block). kind_in (Some c) x.at) on.is)) ∙ starts))

  passes_back : (way : Way) (e : Edge) (y : IsOwnEdge e) → IsTrue (passes way (with_edge_blocks f) e)
      → IsTrue (passes way f (was e y))
  passes_back Way.Calm e y p = subst (λ (k : EdgeKind). IsTrue (passes Way.Calm f
      (record { from = e.from; to = e.to; kind = k }))) y.kind p
  passes_back Way.Unfreed e y p =
      subst (λ (b : Bool). IsTrue (not b)) (ap (has_at is_free (with_edge_blocks f)) y.stands
      ∙ own_has is_free y.index) p
  passes_back Way.Destroyed e y p = refl

  -- on from a block that is on the way
  steps_back : (way : Way) (e : Edge) → IsListed e (edges_of (with_edge_blocks f))
      → IsTrue (passes way (with_edge_blocks f) e) → IsBack way e.from → IsBack way e.to
  steps_back way e listed pass back =
      let x = edge_is (with_edge_blocks f) e listed in
      ⊎_elim (λ (o : IsOwnOn way e.from). from_own x o (home f e.from x.block x.got)) (from_edge x) back
    where
      from_own : (x : IsEdgeOf (with_edge_blocks f) e) → IsOwnOn way e.from
          → IsOwn f e.from x.block ⊎ IsEdge f e.from x.block → IsBack way e.to
      from_own x o (inl own) =
          let y = own_edge e x own in
          let same : o.index ≡ y.index = spots_apart f o.index y.index (sym o.stands ∙ y.stands) in
          goes_back way e y (Step (was e y) (subst (IsOn way f) same o.led) (was_listed e y)
          (passes_back way e y pass))
      from_own x o (inr on) = absurd (spots_no_edge f named on.index on.block on.position on.edge on.got on.there
          o.index (sym o.stands ∙ on.stands))

      from_edge : (x : IsEdgeOf (with_edge_blocks f) e) → IsOver way e.from → IsBack way e.to
      from_edge x v =
          let both : Some x.block ≡ Some (edge_block v.edge) =
          sym x.got ∙ ap (slice_get (with_edge_blocks f).blocks) v.stands
          ∙ edge_there f v.index v.block v.position v.edge v.got v.there in
          let same : x.block ≡ edge_block v.edge = cc in
          inl (record {
            index = position_of f v.edge.target;
            stands = x.leads ∙ ap (position_of (with_edge_blocks f)) (only x.at (sym (ap (λ (c : Block). slice_get
                (targets c.term) x.at) same) ∙ x.target))
                ∙ position_moved f v.edge.target (target_low f named v.index v.block v.edge.target v.got
                (edge_target f v.index v.block v.position v.edge v.there));
            led = v.led;
          })
        where
          only : (at : ℕ) → slice_get (v.edge.target ∷ []) at ≡ Some x.label → x.label ≡ v.edge.target
          only zero d = let one : v.edge.target ≡ x.label = cc in sym one
          only (suc at) d = absurd (cc)

  entry_back : (b : ℕ) → b ≡ 0 → IsBack Way.Calm b
  entry_back b e = inl (record { index = 0; stands = e; led = Start 0 (inl refl) })

  back : (way : Way) (b : ℕ) → IsOn way (with_edge_blocks f) b → IsBack way b
  back Way.Calm _ (Start b (inl e)) = entry_back b e
  back Way.Calm _ (Start b (inr l)) = begins_back Way.Calm b l
  back Way.Unfreed _ (Start b l) = begins_back Way.Unfreed b l
  back Way.Destroyed _ (Start b l) = begins_back Way.Destroyed b l
  back way _ (Step e l listed pass) = steps_back way e listed pass (back way e.from l)

  -- what doesn't stand on the way in the function doesn't there
  none_there : (way : Way) (test : Instr → Bool) → ((b : ℕ) → IsOn way f b → IsFalse (has_at test f b)) → (b : ℕ)
      → IsOn way (with_edge_blocks f) b → IsFalse (has_at test (with_edge_blocks f) b)
  none_there way test none b l = ⊎_elim
      (λ (o : IsOwnOn way b). ap (has_at test (with_edge_blocks f)) o.stands ∙ own_has test o.index
      ∙ none o.index o.led)
      (λ (v : IsOver way b). ap (has_at test (with_edge_blocks f)) v.stands
      ∙ edge_has test v.index v.block v.position v.edge v.got v.there)
      (back way b l)

  pub freed_over_edges : FreesWhenDestroyed f → FreesWhenDestroyed (with_edge_blocks f)
  freed_over_edges h = record {
    calm = none_there Way.Calm is_free h.calm;
    freed = λ l. ⊎_elim
        (λ (o : IsOwnOn Way.Unfreed (end_block (with_edge_blocks f))).
        h.freed (subst (IsOn Way.Unfreed f) (spots_apart f o.index (end_block f) (sym o.stands ∙ end_moved)) o.led))
        (λ (v : IsOver Way.Unfreed (end_block (with_edge_blocks f))).
        spots_no_edge f named v.index v.block v.position v.edge v.got v.there (end_block f) (sym end_moved ∙ v.stands))
        (back Way.Unfreed (end_block (with_edge_blocks f)) l);
    still = none_there Way.Destroyed is_stop h.still;
  }

-- ---- functions with the same edges, and with the same in each block

module _ (f g : Function) (same : HasSameWays f g) where
  passes_same : (way : Way) → passes way g ≡ passes way f
  passes_same Way.Calm = refl
  passes_same Way.Unfreed = λ i e. not (same.free e.from i)
  passes_same Way.Destroyed = refl

  led_over : (test : Edge → Bool) (all : List ℕ) (b : ℕ) → IsLed g test all b → IsLed f test all b
  led_over test all _ (Start b l) = Start b l
  led_over test all _ (Step x l there p) =
      Step x (led_over test all x.from l) (subst (IsListed x) same.edges there) p

  on_home : (way : Way) (b : ℕ) → IsOn way g b → IsOn way f b
  on_home way b l =
      led_over (passes way f) (starts way (edges_of f)) b
      (subst (λ (es : List Edge). IsLed g (passes way f) (starts way es) b) same.edges
      (subst (λ (test : Edge → Bool). IsLed g test (starts way (edges_of g)) b) (passes_same way) l))

  pub freed_by_ways : FreesWhenDestroyed f → FreesWhenDestroyed g
  freed_by_ways h = record {
    calm = λ b l. same.free b ∙ h.calm b (on_home Way.Calm b l);
    freed = λ l. h.freed (subst (IsOn Way.Unfreed f) same.end (on_home Way.Unfreed (end_block g) l));
    still = λ b l. same.stop b ∙ h.still b (on_home Way.Destroyed b l);
  }
