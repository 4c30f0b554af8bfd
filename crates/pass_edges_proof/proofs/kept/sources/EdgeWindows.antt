-- Where a coroutine's edges have blocks it keeps what is asked of saves, suspends and windows, if it did.
use Rattle.std.proofs.Common.{◌≡◌, ◌⊎◌, inl, inr, ⊎_elim, ℕ, ◌+◌, Bool, true, false, List, [], ◌∷◌, length, Option, Some, None, refl, sym, ap, ◌∙◌, subst}
use Rattle.std.specs.Prelude.{option_map, slice_get, ◌||◌}
use Rattle.pass_edges.specs.EdgeBlocks.{split_term, with_edge_blocks}
use Rattle.pass_edges.specs.Edges.{ends_in_suspend, phi_flags}
use Rattle.pass_early_proof.proofs.ir_laws.paths.renamed.Uses.{stands_in}
use Rattle.pass_early_proof.proofs.ir_laws.paths.expanded.Apart.{same_moved}
use Rattle.pass_edges_proof.proofs.edges.paths.Blocks.{own_number, spot}
use Rattle.pass_edges_proof.proofs.edges.paths.Edges.{threads}
use Rattle.pass_early_proof.proofs.ir_laws.paths.threads.Threads.{leads_forth, leads_home}
use Rattle.pass_edges_proof.proofs.edges.paths.Windows.{differ, suspend_moved}
use Rattle.pass_edges_proof.proofs.edges.rules.Homes.{IsEdge, IsOwn, home, own_block, own_there}
use Rattle.pass_edges_proof.proofs.edges.rules.Standing.{instr_home, no_instr, stand_alike}
use Rattle.pass_edges_proof.specs.edges.paths.Spots.{moved}
use Rattle.pass_early_proof.specs.ir_laws.paths.threads.Threads.{AreAvoidedToo, AreThreads}
use Rattle.pass_early_proof.specs.ir_laws.facts.branches.MovedState.{IsSwitch}
use Rattle.pass_edges_proof.specs.edges.states.MovedState.{KeepsEdges}
use Rattle.ir_model.specs.declared.instr.Instr.{Instr}
use Rattle.ir_model.specs.declared.instr.Terminator.{Terminator}
use Rattle.ir_model.specs.declared.module.Block.{Block}
use Rattle.ir_model.specs.declared.module.Function.{Function}
use Rattle.ir_model.specs.declared.operand.Intrinsic.{Intrinsic}
use Rattle.pass_early_proof.specs.ir_paths.Paths.{Leads, same_point}
use Rattle.pass_early_proof.specs.ir_paths.Windows.{IsInWindow, suspend_of}
use Rattle.pass_early_proof.specs.ir_paths.declared.point.Point.{Point}
use Rattle.pass_edges_proof.proofs.kept.sources.EdgeNeeds.{behind_home, edge_phis, own_phis}
use Rattle.pass_early_proof.proofs.rule_laws.rules.sources.Places.{IsEnd, instr_there, point, term_there}
use Rattle.pass_edges_proof.proofs.kept.sources.Suspends.{switched_by}
use Rattle.pass_kept_proof.proofs.Rules.{suspend_is_suspend}
use Rattle.pass_kept_proof.specs.Needed.{IsNeededBehind, given_by, phis_give}
use Rattle.pass_kept_proof.specs.SuspendRules.{IsCallAt, IsGivenBy, IsPhiAt, IsSwitched, KeepsSuspendRules}
use Rattle.pass_early_proof.specs.run_step.Step.{AtInstr, AtTerm, Fetched, Nowhere, fetch, fetch_in, phis_of}
use Rattle.pass_early_proof.proofs.ir_laws.paths.path_rules.SavedWindows.{neither}

split_switch : (flags : List Bool) (resumes : Bool) (n : ℕ) (t : Terminator) → IsSwitch t → IsSwitch (split_term flags resumes n t)
split_switch flags resumes n (Terminator.Switch arg default cases) is = tt
split_switch flags resumes n (Terminator.Jump label) is = absurd is
split_switch flags resumes n (Terminator.Branch x a b) is = absurd is
split_switch flags resumes n (Terminator.Ret value) is = absurd is
split_switch flags resumes n Terminator.Unreachable is = absurd is

module _ (f : Function) (keeps : KeepsEdges f) where
  abbrev g : Function
  g = with_edge_blocks f

  pub ways : AreThreads f (with_edge_blocks f) (moved f)
  ways = threads f keeps.labels

  -- ---- places at which something stands

  -- a place of the result is one of the function, moved
  pub record IsMovedFrom (p : Point) : Type 0 where
    pub place : Point
    pub is : p ≡ moved f place

  of_block : (p : Point) (k : ℕ) → p.block ≡ spot f k → IsMovedFrom p
  of_block p k same = record { place = point k p.at; is = λ j. point (same j) p.at }

  -- an instruction stands in a block of the function
  pub instr_from : (p : Point) (i : Instr) → fetch g p.block p.at ≡ AtInstr i → IsMovedFrom p
  instr_from p i e = on (slice_get g.blocks p.block) refl
    where
      on : (o : Option Block) → slice_get g.blocks p.block ≡ o → IsMovedFrom p
      on None d = let no : Nowhere ≡ AtInstr i = sym (ap (λ (o : Option Block). fetch_in o p.at) d) ∙ e in absurd (cc)
      on (Some c) d = ⊎_elim
          (λ (x : IsOwn f p.block c). of_block p x.index x.stands)
          (λ (x : IsEdge f p.block c). absurd (no_instr f keeps.labels x.index x.block x.position x.edge x.got x.there p.block p.at i e x.stands))
          (home f p.block c d)

  pub instr_at_home : (q : Point) (i : Instr) → fetch g (moved f q).block q.at ≡ AtInstr i → fetch f q.block q.at ≡ AtInstr i
  instr_at_home q i e = instr_home f q.block (fetch f q.block q.at) (fetch g (spot f q.block) q.at) (stand_alike f q.block q.at) i e

  pub call_home : (j : Intrinsic) (q : Point) → IsCallAt j g (moved f q) → IsCallAt j f q
  call_home j q c = record { instr = c.instr; stands = instr_at_home q c.instr c.stands; is = c.is }

  -- a phi stands in a block of the function
  phi_from : (v : ℕ) (p : Point) → IsPhiAt g v p → IsMovedFrom p
  phi_from v p h = on (slice_get g.blocks p.block) refl
    where
      on : (o : Option Block) → slice_get g.blocks p.block ≡ o → IsMovedFrom p
      on None d = let no : false ≡ true = sym (ap (λ (o : Option Block). phis_give v (phis_of o)) d) ∙ h.1 in absurd (cc)
      on (Some c) d = ⊎_elim
          (λ (x : IsOwn f p.block c). of_block p x.index x.stands)
          (λ (x : IsEdge f p.block c).
          let none : phis_of (slice_get g.blocks p.block) ≡ [] = ap (λ (n : ℕ). phis_of (slice_get g.blocks n)) x.stands ∙ edge_phis f keeps.labels keeps.once v x.index x.block x.position x.edge x.got x.there in
          let no : false ≡ true = sym (ap (phis_give v) none) ∙ h.1 in
          absurd (cc))
          (home f p.block c d)

  phi_home : (v : ℕ) (q : Point) → IsPhiAt g v (moved f q) → IsPhiAt f v q
  phi_home v q h = (h.0, sym (own_phis f keeps.labels keeps.once v q.block) ∙ h.1)

  -- ---- suspends

  record EndsInSwitch (s : Point) : Type 0 where
    block : Block
    got : slice_get f.blocks s.block ≡ Some block
    switch : IsSwitch block.term

  suspend_switch : (s : Point) → IsCallAt Intrinsic.CoroSuspend f s → EndsInSwitch s
  suspend_switch s c =
      let there = instr_there f s.block s.at c.instr c.stands in
      let x = stands_in f s c.instr there in
      record { block = x.block; got = x.got; switch = keeps.switches s x.block c.instr there c.is x.got }

  needed_home : (s : Point) (v : ℕ) → IsCallAt Intrinsic.CoroSuspend f s → IsNeededBehind g (moved f s) v → IsNeededBehind f s v
  needed_home s v c n = let x = suspend_switch s c in behind_home f keeps.labels keeps.once v s x.block x.got x.switch n

  -- the save of a window and its suspend
  pub record IsPair (save suspend : Point) : Type 0 where
    pub old_save : Point
    pub save_is : save ≡ moved f old_save
    pub old_suspend : Point
    pub suspend_is : suspend ≡ moved f old_suspend
    pub call : IsCallAt Intrinsic.CoroSave f old_save
    pub pair : suspend_of f old_save ≡ Some old_suspend

  pub pair_home : (k s : Point) → IsCallAt Intrinsic.CoroSave g k → suspend_of g k ≡ Some s → IsPair k s
  pair_home k s c e = on (instr_from k c.instr c.stands)
    where
      on : IsMovedFrom k → IsPair k s
      on x = by (suspend_of f x.place) refl (sym (suspend_moved f x.place) ∙ ap (suspend_of g) (sym x.is) ∙ e)
        where
          by : (o : Option Point) → suspend_of f x.place ≡ o → option_map (moved f) o ≡ Some s → IsPair k s
          by None d h = absurd (cc)
          by (Some t) d h =
              let same : moved f t ≡ s = cc in
              record { old_save = x.place; save_is = x.is; old_suspend = t; suspend_is = sym same; call = call_home Intrinsic.CoroSave x.place (subst (IsCallAt Intrinsic.CoroSave g) x.is c); pair = d }

  module _ (k s : Point) where
    same_now : (p q : Point) → same_point (moved f p) (moved f q) ≡ same_point p q
    same_now p q = same_moved (moved f) (moved f) p q (ways.apart p q) refl

    avoided : AreAvoidedToo (moved f) (k ∷ s ∷ []) (moved f k ∷ moved f s ∷ [])
    avoided = record {
      moved = λ p. let a = same_now p k in let b = same_now p s in λ i. a i || (b i || false);
      others = λ y h. neither (moved f k) (moved f s) y (differ (moved f k) y (h k)) (differ (moved f s) y (h s));
    }

    pub window_home : (p : Point) → IsInWindow g (moved f k) (moved f s) (moved f p) → IsInWindow f k s p
    window_home p w = record {
      is_not_save = sym (same_now p k) ∙ w.is_not_save;
      is_not_suspend = sym (same_now p s) ∙ w.is_not_suspend;
      from_save = leads_home f g (moved f) ways (k ∷ s ∷ []) (moved f k ∷ moved f s ∷ []) avoided k p w.from_save;
      to_suspend = leads_home f g (moved f) ways (k ∷ s ∷ []) (moved f k ∷ moved f s ∷ []) avoided p s w.to_suspend;
    }

  pub old_window : (k s q : Point) (x : IsPair k s) → IsInWindow g k s (moved f q) → IsInWindow f x.old_save x.old_suspend q
  old_window k s q x w =
      window_home x.old_save x.old_suspend q
      (subst (λ (p : Point). IsInWindow g p (moved f x.old_suspend) (moved f q)) x.save_is (subst (λ (p : Point). IsInWindow g k p (moved f q)) x.suspend_is w))

  -- ---- all of it

  module _ (rules : KeepsSuspendRules f) where
    length_same : (s : Point) (b : Block) (i : Instr) (t : Terminator) → slice_get f.blocks s.block ≡ Some b → IsEnd f s.block (s.at + 1) t → s.at + 1 ≡ length b.instrs
    length_same s b i t got x =
        let both : Some x.own ≡ Some b = sym x.got ∙ got in
        let one : x.own ≡ b = cc in
        x.last ∙ ap (λ (c : Block). length c.instrs) one

    switched : (s : Point) → IsCallAt Intrinsic.CoroSuspend g s → IsSwitched g s
    switched s c = on (instr_from s c.instr c.stands)
      where
        on : IsMovedFrom s → IsSwitched g s
        on x =
            let old = call_home Intrinsic.CoroSuspend x.place (subst (IsCallAt Intrinsic.CoroSuspend g) x.is c) in
            let y = suspend_switch x.place old in
            let z = rules.switched x.place old in
            subst (IsSwitched g) (sym x.is)
            (switched_by g (moved f x.place) (own_block f x.place.block y.block) (own_there f x.place.block y.block y.got)
            (length_same x.place y.block old.instr z.term y.got (term_there f x.place.block (x.place.at + 1) z.term z.stands))
            (split_switch (phi_flags f) (ends_in_suspend y.block.instrs) (own_number f x.place.block) y.block.term y.switch))

    unread : (s : Point) (c : IsCallAt Intrinsic.CoroSuspend g s) (v : ℕ) → given_by c.instr ≡ Some v → IsNeededBehind g s v → ⊥
    unread s c v gives n = on (instr_from s c.instr c.stands)
      where
        on : IsMovedFrom s → ⊥
        on x =
            let old : IsCallAt Intrinsic.CoroSuspend f x.place = record { instr = c.instr; stands = instr_at_home x.place c.instr (ap (λ (p : Point). fetch g p.block p.at) (sym x.is) ∙ c.stands); is = c.is } in
            rules.unread x.place old v gives (needed_home x.place v old (subst (λ (p : Point). IsNeededBehind g p v) x.is n))

    leads : (k s : Point) → IsCallAt Intrinsic.CoroSave g k → suspend_of g k ≡ Some s → Leads g [] k s
    leads k s c e =
        let x = pair_home k s c e in
        subst (λ (p : Point). Leads g [] p s) (sym x.save_is)
        (subst (λ (q : Point). Leads g [] (moved f x.old_save) q) (sym x.suspend_is)
        (leads_forth f g (moved f) ways [] [] (record { moved = λ p. refl; others = λ y h. refl }) x.old_save x.old_suspend (rules.leads x.old_save x.old_suspend x.call x.pair)))

    no_end : (k s p : Point) → IsCallAt Intrinsic.CoroSave g k → suspend_of g k ≡ Some s → IsInWindow g k s p → IsCallAt Intrinsic.CoroEnd g p → ⊥
    no_end k s p c e w d =
        let x = pair_home k s c e in
        let y = instr_from p d.instr d.stands in
        rules.no_end x.old_save x.old_suspend y.place x.call x.pair (old_window k s y.place x (subst (IsInWindow g k s) y.is w)) (call_home Intrinsic.CoroEnd y.place (subst (IsCallAt Intrinsic.CoroEnd g) y.is d))

    old_needed : (k s : Point) (v : ℕ) (x : IsPair k s) → IsNeededBehind g s v → IsNeededBehind f x.old_suspend v
    old_needed k s v x n = needed_home x.old_suspend v (suspend_is_suspend f x.old_save x.old_suspend x.pair) (subst (λ (p : Point). IsNeededBehind g p v) x.suspend_is n)

    given : (k s p : Point) (v : ℕ) → IsCallAt Intrinsic.CoroSave g k → suspend_of g k ≡ Some s → IsInWindow g k s p → IsNeededBehind g s v → IsGivenBy (fetch g p.block p.at) v ⊎ IsPhiAt g v p → ⊥
    given k s p v c e w n (inl h) = on (fetch g p.block p.at) refl h
      where
        x : IsPair k s
        x = pair_home k s c e

        on : (z : Fetched) → fetch g p.block p.at ≡ z → IsGivenBy z v → ⊥
        on Nowhere d q = q
        on (AtTerm t) d q = q
        on (AtInstr i) d q =
            let y = instr_from p i d in
            let old : fetch f y.place.block y.place.at ≡ AtInstr i = instr_at_home y.place i (ap (λ (r : Point). fetch g r.block r.at) (sym y.is) ∙ d) in
            rules.given x.old_save x.old_suspend y.place v x.call x.pair (old_window k s y.place x (subst (IsInWindow g k s) y.is w)) (old_needed k s v x n) (inl (subst (λ (r : Fetched). IsGivenBy r v) (sym old) q))
    given k s p v c e w n (inr h) =
        let x = pair_home k s c e in
        let y = phi_from v p h in
        rules.given x.old_save x.old_suspend y.place v x.call x.pair (old_window k s y.place x (subst (IsInWindow g k s) y.is w)) (old_needed k s v x n) (inr (phi_home v y.place (subst (IsPhiAt g v) y.is h)))

    no_phi : (k s : Point) (v : ℕ) → IsCallAt Intrinsic.CoroSave g k → suspend_of g k ≡ Some s → IsNeededBehind g s v → IsPhiAt g v s → ⊥
    no_phi k s v c e n h =
        let x = pair_home k s c e in
        rules.no_phi x.old_save x.old_suspend v x.call x.pair (old_needed k s v x n) (phi_home v x.old_suspend (subst (IsPhiAt g v) x.suspend_is h))

    pub edges_keep : KeepsSuspendRules (with_edge_blocks f)
    edges_keep = record { switched = switched; unread = unread; leads = leads; no_end = no_end; given = given; no_phi = no_phi }
