-- Where edges have blocks, no path from a suspend leads to a return outside the end's block, as in the function (K5).
use Rattle.std.proofs.Common.{◌≡◌, inl, inr, ⊎_elim, ℕ, suc, ◌+◌, ◌<◌, Bool, true, false, List, [], ◌∷◌, length, refl, sym, ap, ◌∙◌, subst, arith}
use Rattle.std.specs.Prelude.{Some, None, Option, if◌then◌else◌, option_map, slice_get, unwrap_or, ◌==◌}
use Rattle.pass_exits_proof.proofs.rule_laws.frames.crossing.Defined.{switch_leads}
use Rattle.pass_exits_proof.proofs.rule_laws.frames.crossing.Paths.{leads_on, to_end}
use Rattle.pass_exits_proof.proofs.ir_laws.paths.crossing.Spots.{spot_first, spot_term}
use Rattle.pass_exits_proof.specs.ir_laws.facts.crossing.Crossed.{is_switch}
use Rattle.pass_exits_proof.specs.rule_shape.OneOfEach.{wrong_call}
use Rattle.pass_exits_proof.specs.rule_shape.Switches.{wrong_switch}
use Rattle.pass_exits_proof.specs.pass_split.Reached.{entry_of}
use Rattle.pass_exits_proof.proofs.ir_laws.facts.Lists.{get_within}
use Rattle.pass_exits_proof.proofs.ir_laws.facts.Truth.{itself}
use Rattle.pass_exits_proof.specs.ir_laws.facts.renamed.Regular.{passes}
use Rattle.pass_exits_proof.proofs.rule_laws.rules.path_rules.Outside.{NothingOutside, of_outside}
use Rattle.pass_exits_proof.proofs.ir_laws.paths.path_rules.Where.{has_where}
use Rattle.pass_exits_proof.proofs.edges.paths.Blocks.{position_edge, spot}
use Rattle.pass_exits_proof.proofs.edges.paths.Edges.{edges_of_block}
use Rattle.pass_exits_proof.proofs.edges.paths.Whole.{first_moved}
use Rattle.pass_exits_proof.specs.ir_laws.paths.threads.Labels.{HasNamedLabels}
use Rattle.pass_exits_proof.specs.edges.paths.Labels.{IsSplit}
use Rattle.pass_exits_proof.proofs.edges.rules.Homes.{IsEdge, IsOwn, edge_target, edge_there, home, own_block, spots_apart, spots_no_edge}
use Rattle.pass_exits_proof.proofs.edges.rules.Standing.{BothTerm, IsBranch, branch_home, leads_home, place_of_target}
use Rattle.pass_exits_proof.proofs.edges.rules.Switched.{switched, switches_stay}
use Rattle.pass_edges.specs.EdgeBlocks.{edge_block, split_term, with_edge_blocks}
use Rattle.pass_edges.specs.Edges.{phi_flags}
use Rattle.pass_edges.specs.declared.edge.Edge.{Edge}
use Rattle.pass_exits_proof.proofs.rule_laws.rules.known_labels.Known.{labels_known}
use Rattle.pass_exits_proof.specs.flow_solver.Paths.{IsListed}
use Rattle.pass_exits_proof.proofs.rule_laws.frames.needed.States.{Stands, at_entry, next_in, not_end, point, runs_on, runs_out, runs_through, stands_on, stands_within, suspend_runs}
use Rattle.pass_exits_proof.proofs.ir_laws.paths.renamed.Switches.{suspend_no_end}
use Rattle.pass_exits_proof.specs.split.crossing.Ended.{AreEndedFirst}
use Rattle.pass_exits_proof.proofs.rule_laws.frames.shape.Points.{IsFrom, point_from}
use Rattle.pass_exits_proof.specs.rule_laws.rules.function_rules.Kept.{KeepsFunctionRules}
use Rattle.pass_exits_proof.specs.pass_intrinsics.declared.shape.SuspendPoint.{SuspendPoint}
use Rattle.ir_model.specs.Names.{first_where, position_of}
use Rattle.ir_model.specs.declared.module.Block.{Block}
use Rattle.ir_model.specs.declared.module.Function.{Function}
use Rattle.ir_model.specs.declared.module.Module.{Module}
use Rattle.ir_model.specs.declared.operand.Intrinsic.{Intrinsic}
use Rattle.pass_exits_proof.specs.ir_paths.Paths.{has_point, targets}
use Rattle.pass_exits_proof.specs.ir_paths.Windows.{end_block, instr_at, instr_in, is_call_of, label_of_term}
use Rattle.pass_exits_proof.specs.split.rules.Reached.{Edge as LedEdge, Entry as LedEntry, IsLedTo}
use Rattle.pass_exits_proof.specs.rule_laws.frames.replaced.Splittable.{Across, Here, IsEndedFirst, LeadsToReturn, is_return}
use Rattle.std.specs.List.{list_any}
use Rattle.pass_exits_proof.specs.frame_crossing.Paths.{Along, BranchesTo, IsOutside, LeadsTo, There}
use Rattle.pass_exits_proof.specs.rule_windows.Points.{ends}
use Rattle.pass_exits_proof.specs.rule_windows.Sets.{RunsOut}
use Rattle.pass_exits_proof.proofs.edges.rules.Kept.{rules_kept}
use Rattle.pass_exits_proof.proofs.rule_laws.rules.source_rules.Locals.{own_label}
use Rattle.pass_exits_proof.proofs.edges.calls.Fetched.{call_suspends}
use Rattle.ir_model.specs.declared.instr.Terminator.{Terminator}
use Rattle.pass_exits_proof.specs.run_step.Step.{AtTerm}
use Rattle.pass_exits_proof.specs.rule_windows.Outside.{IsFirstOutside, is_return as returns}
use Rattle.pass_exits_proof.proofs.split.crossing.Ending.{block_there}

abbrev position_in : List Block → ℕ → ℕ
position_in bs label = unwrap_or (first_where (λ (b : Block). b.label == label) bs) (length bs)

module _ (g : Function) where
  pub first_position : (bs : List Block) (label : ℕ) → g.blocks ≡ bs → IsListed label (entry_of bs) → position_of g label ≡ 0
  first_position [] label e l = absurd l
  first_position (b ∷ bs) label e (inl same) =
      ap (λ (cs : List Block). position_in cs label) e
      ∙ ap (λ (t : Bool). unwrap_or (if t then Some 0 else option_map suc (first_where (λ (c : Block). c.label == label) bs)) (length (b ∷ bs))) (ap (λ (n : ℕ). b.label == n) same ∙ itself b.label)
  first_position (b ∷ bs) label e (inr l) = absurd l

  led : (label : ℕ) → IsLedTo g label → LeadsTo g (position_of g label) 0 0 0
  led _ (LedEntry label l) = subst (λ (n : ℕ). LeadsTo g n 0 0 0) (sym (first_position g.blocks label refl l)) There
  led _ (LedEdge from label before l) =
      let x = block_there (slice_get g.blocks (position_of g from)) label l in
      let q : ℕ = position_of g from in
      let y = to_end g q 0 x.0 x.0.instrs (spot_first g q x.0 x.1.0) in
      leads_on g q 0 (position_of g label) 0 0 0 (led from before)
      (leads_on g q y.last (position_of g label) 0 q 0 y.path (Along q y.last label (subst (BranchesTo label) (sym (spot_term g q y.last x.0 y.spot)) x.1.1) There))

-- ---- returns

return_split : (flags : List Bool) (resumes : Bool) (n : ℕ) (t : Terminator) → is_return (split_term flags resumes n t) ≡ is_return t
return_split flags resumes n (Terminator.Jump label) = refl
return_split flags resumes n (Terminator.Branch c a b) = refl
return_split flags resumes n (Terminator.Switch arg default cases) = refl
return_split flags resumes n (Terminator.Ret value) = refl
return_split flags resumes n Terminator.Unreachable = refl

return_too : (t : Terminator) → is_return t ≡ true → returns t ≡ true
return_too (Terminator.Ret value) e = refl
return_too _ e = absurd (cc)

module _ (m : Module) (k : ℕ) (f : Function) (rules : KeepsFunctionRules m k f) (coroutine : f.coroutine ≡ true) (calls : wrong_call k f ≡ None) (switches : wrong_switch k f ≡ None) (none : NothingOutside f) where
  abbrev g : Function
  g = with_edge_blocks f

  named : HasNamedLabels f
  named = labels_known k f rules.tabled m rules.known

  end_moved : end_block g ≡ spot f (end_block f)
  end_moved = first_moved (λ (b : Block). list_any (is_call_of Intrinsic.CoroEnd) b.instrs) f (λ flags table n b. refl) (λ e. refl)

  -- what a path to a return says of the function
  record Returns (x : ℕ) : Type 0 where
    own : (q : ℕ) → x ≡ spot f q → RunsOut f (point q 0) → ⊥
    edge : (q : ℕ) (b : Block) (i : ℕ) (e : Edge) → slice_get f.blocks q ≡ Some b → slice_get (edges_of_block f q b) i ≡ Some e → x ≡ spot f q + suc i → RunsOut f (point (position_of f e.target) 0) → ⊥

  abbrev Branch : ℕ → Block → ℕ → ℕ → Type 0
  Branch q b t label = IsBranch f q (AtTerm b.term) (AtTerm (own_block f q b).term) t label

  way : (q t label : ℕ) (b : Block) → Branch q b t label → Returns (position_of g label) → RunsOut f (point (position_of f t) 0) → ⊥
  way q t label b y again = on y.split
    where
      on : IsSplit (phi_flags f) y.block.label (edges_of_block f q y.block) t label → RunsOut f (point (position_of f t) 0) → ⊥
      on (inl d) = again.own (position_of f t) (ap (position_of g) d.0 ∙ place_of_target f named q y.block t y.there y.own)
      on (inr x) =
          let e : Edge = record { from = y.block.label; target = t; label = label } in
          again.edge q y.block x.at e y.there x.got (position_edge f named q y.block x.at e y.there x.got)

  -- from the end of a block on
  way_on : (q label : ℕ) (b : Block) → slice_get f.blocks q ≡ Some b → IsListed label (targets (own_block f q b).term) → Returns (position_of g label) → RunsOut f (point q (length b.instrs)) → ⊥
  way_on q label b got l again x =
      let y = branch_home f q (AtTerm b.term) (AtTerm (own_block f q b).term) (BothTerm b got) label l in
      way q y.0 label b y.1 again (runs_out f q b y.0 got y.1.before x)

  through : (q : ℕ) (b : Block) → IsOutside f q → slice_get f.blocks q ≡ Some b → RunsOut f (point q 0) → RunsOut f (point q (length b.instrs))
  through q b out got x = runs_through f (length b.instrs) q 0 b got (omega arith) (λ j. not_end k f coroutine calls q j out) x

  -- a block of the function
  by_own : (x : ℕ) (c : Block) → slice_get g.blocks x ≡ Some c → IsOutside g x → (q : ℕ) → x ≡ spot f q → ((b : Block) → slice_get f.blocks q ≡ Some b → c ≡ own_block f q b → IsOutside f q → ⊥) → ⊥
  by_own x c got out q same leave = ⊎_elim
      (λ (y : IsOwn f x c).
      let one : y.index ≡ q = spots_apart f y.index q (sym y.stands ∙ same) in
      leave y.block (ap (slice_get f.blocks) (sym one) ∙ y.got) (y.is ∙ ap (λ (n : ℕ). own_block f n y.block) one) (λ e. out (same ∙ ap (spot f) e ∙ sym end_moved)))
      (λ (y : IsEdge f x c). spots_no_edge f named y.index y.block y.position y.edge y.got y.there q (sym same ∙ y.stands))
      (home f x c got)

  -- the block of an edge
  of_edge : (x : ℕ) (c : Block) → slice_get g.blocks x ≡ Some c → (q : ℕ) (b : Block) (i : ℕ) (e : Edge) → slice_get f.blocks q ≡ Some b → slice_get (edges_of_block f q b) i ≡ Some e → x ≡ spot f q + suc i → c ≡ edge_block e
  of_edge x c got q b i e there edge same =
      let both : Some c ≡ Some (edge_block e) = sym got ∙ ap (slice_get g.blocks) same ∙ edge_there f q b i e there edge in cc

  returns_home : (x : ℕ) → LeadsToReturn g x → Returns x
  returns_home _ (Here x c out got ends) = record {
    own = λ q same run. by_own x c got out q same
        (λ b there is outside.
        let back : is_return b.term ≡ true = sym (return_split _ _ _ b.term) ∙ ap (λ (d : Block). is_return d.term) (sym is) ∙ ends in
        none.returns q b there (return_too b.term back) (through q b outside there run));
    edge = λ q b i e there edge same run.
        let is : c ≡ edge_block e = of_edge x c got q b i e there edge same in
        let t : false ≡ true = ap (λ (d : Block). is_return d.term) (sym is) ∙ ends in absurd (cc);
  }
  returns_home _ (Across x label c out got l rest) = on (returns_home (position_of g label) rest)
    where
      on : Returns (position_of g label) → Returns x
      on again = record {
        own = λ q same run. by_own x c got out q same
            (λ b there is outside. way_on q label b there (subst (λ (d : Block). IsListed label (targets d.term)) is l) again (through q b outside there run));
        edge = λ q b i e there edge same run.
            let is : c ≡ edge_block e = of_edge x c got q b i e there edge same in
            ⊎_elim
            (λ (to : label ≡ e.target). again.own (position_of f e.target) (ap (position_of g) to ∙ place_of_target f named q b e.target there (edge_target f q b i e edge)) run)
            (λ no. absurd no)
            (subst (λ (d : Block). IsListed label (targets d.term)) is l);
      }

  -- ---- a suspend that is reached

  module _ (p : SuspendPoint) (x : IsFrom g p) (led_to : IsLedTo g p.block) where
    abbrev Own : Type 0
    Own = IsOwn f x.position x.block

    module _ (y : IsOwn f x.position x.block) where
      place : position_of g p.block ≡ spot f y.index
      place = ap (position_of g) x.is_of.block ∙ own_label k g (rules_kept m k f rules).definitions x.position x.block x.got ∙ y.stands

      stands : Stands f (point y.index 0)
      stands =
          stands_on f y.index 0 0 0
          ((leads_home f named y.index 0 0 0 (subst (λ (n : ℕ). LeadsTo g n 0 0 0) place (led g p.block led_to))).own 0 refl)
          (at_entry f)

      there : slice_get y.block.instrs x.at ≡ Some x.instr
      there = ap (λ (d : Block). slice_get d.instrs x.at) (sym y.is) ∙ x.there

      there_at : instr_at f (point y.index x.at) ≡ Some x.instr
      there_at = ap (λ (o : Option Block). instr_in o x.at) y.got ∙ there

      behind : RunsOut f (point y.index (length y.block.instrs))
      behind =
          let lt : x.at < length y.block.instrs = get_within y.block.instrs x.at x.instr there in
          let far : 0 + x.at < length y.block.instrs = omega (arith, lt) in
          let start : 0 + x.at ≡ x.at = omega arith in
          let here : Stands f (point y.index x.at) = subst (λ (n : ℕ). Stands f (point y.index n)) start (stands_within f x.at y.index 0 y.block y.got far stands) in
          let last : x.at + 1 ≡ length y.block.instrs = (switched k f coroutine switches y.index x.at y.block x.instr y.got there (call_suspends x.instr x.suspends)).last in
          let no_end : has_point (ends f) (point y.index x.at) ≡ false = has_where (is_call_of Intrinsic.CoroEnd) f (point y.index x.at) ∙ ap (passes (is_call_of Intrinsic.CoroEnd)) there_at ∙ suspend_no_end x.instr x.suspends in
          subst (λ (n : ℕ). RunsOut f (point y.index n)) last
          (runs_on f (point y.index x.at) (point y.index (x.at + 1)) (suspend_runs f none (point y.index x.at) x.instr there_at x.suspends here) no_end (next_in f y.index x.at y.block y.got lt))

      switch : is_switch x.block.term ≡ true
      switch = ap is_switch (switches_stay k f coroutine switches x.position x.at x.block x.instr x.got x.there (call_suspends x.instr x.suspends)).is

      no_return : (n label : ℕ) → label ≡ label_of_term n x.block.term → LeadsToReturn g (position_of g label) → ⊥
      no_return n label same h =
          way_on y.index label y.block y.got
          (subst (λ (d : Block). IsListed label (targets d.term)) y.is (subst (λ (t : ℕ). IsListed t (targets x.block.term)) (sym same) (switch_leads n x.block.term switch)))
          (returns_home (position_of g label) h) behind

      ended : IsEndedFirst g p
      ended = record { resume = no_return 0 p.resume x.is_of.resume; destroy = no_return 1 p.destroy x.is_of.destroy }

    ended_first : IsEndedFirst g p
    ended_first = ⊎_elim ended
        (λ (y : IsEdge f x.position x.block). let no : slice_get (edge_block y.edge).instrs x.at ≡ Some x.instr = ap (λ (d : Block). slice_get d.instrs x.at) (sym y.is) ∙ x.there in absurd (cc))
        (home f x.position x.block x.got)

pub edges_end_first : (m : Module) (k : ℕ) (f : Function) → KeepsFunctionRules m k f → f.coroutine ≡ true → wrong_call k f ≡ None → wrong_switch k f ≡ None → IsFirstOutside k f None → AreEndedFirst (with_edge_blocks f)
edges_end_first m k f rules coroutine calls switches outside p l led_to =
    ended_first m k f rules coroutine calls switches (of_outside k f coroutine outside) p (point_from (with_edge_blocks f) p l) led_to
