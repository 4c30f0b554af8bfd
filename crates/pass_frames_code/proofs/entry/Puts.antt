-- Addresses are put into cells one after another.
use Rattle.std.proofs.Common.{◌≡◌, inl, inr, ℕ, List, [], ◌∷◌, ◌++◌, refl, sym, ap, ◌∙◌, subst}
use Rattle.std.specs.List.{Contains}
use Rattle.std.specs.Prelude.{◌≢◌}
use Rattle.pass_proofs.specs.flow_solver.Paths.{IsListed}
use Rattle.pass_proofs.proofs.ir_laws.facts.Members.{each_joined, each_turns}
use Rattle.pass_proofs.specs.ir_laws.paths.woven_rules.Pairs.{AreDifferent}
use Rattle.pass_proofs.specs.ir_model.Ty.{ptr}
use Rattle.pass_proofs.specs.pass_copies.BeginCopies.{put}
use Rattle.pass_proofs.specs.pass_copies.declared.slot.EarlySlot.{EarlySlot}
use Rattle.pass_frames_code.proofs.lines.Cells.{AreOf, cell_has, cell_on, cell_stays, cell_stores, inside_of, kept_type, other_block}
use Rattle.pass_frames_code.proofs.lines.Filled.{over_joined, over_none}
use Rattle.pass_frames_code.specs.Entry.{ArePut, MayPut, cells_of, puts_of}
use Rattle.pass_frames_code.specs.Lines.{HasOwnBlocks, StoresCell, at_work}
use Rattle.pass_frames_code.specs.Related.{Anything, IsCell}
use Rattle.pass_proofs.specs.run_laws.access.Accessed.{Span}
use Rattle.pass_proofs.specs.run_laws.changed.Changed.{Each}
use Rattle.pass_proofs.specs.run_laws.memory.Standing.{AreByteRights}
use Rattle.pass_proofs.specs.run_memory.declared.pointer.Access.{Access}
use Rattle.pass_proofs.specs.run_memory.declared.pointer.Value.{Value}
use Rattle.pass_proofs.specs.run_source.declared.state.Activation.{Activation}
use Rattle.pass_proofs.specs.run_step.Step.{Context, Work}
use Rattle.pass_proofs.specs.run_step.Values.{Env, stored, value_in}

module _ (c : Context) (law : AreByteRights c.rights) (a : Activation) (own : HasOwnBlocks a) (address : EarlySlot → ℕ)
    (n : ℕ) where
  abbrev May : Work → EarlySlot → Type 0
  May w s = MayPut c.rights w.world.memory (at_work a w) address n s

  abbrev Cell : Work → ℕ → (Value → Type 0) → Type 0
  Cell w cell Has = IsCell c.rights w.world.memory (at_work a w) cell ptr Has

  abbrev AreAmong : List ℕ → List Span → Type 0
  AreAmong cells spans =
      Each (λ (z : Span).
      (cell : ℕ) × IsListed cell cells × Contains a.slots (record { alloca = cell; block = z.block })) spans

  module _ (w : Work) (s : EarlySlot) (h : May w s) where
    one : StoresCell c w a (address s) s.cell ptr n
    one = cell_stores c w a law (address s) s.cell n ptr Anything (kept_type ptr refl) h.cell

    of : AreOf c law a own s.cell one.spans
    of = inside_of c law a own s.cell one.cell_is.block one.spans one.cell_is.own one.inside

    -- the others may be put on
    may_on : (ss : List EarlySlot) → (IsListed s.cell (cells_of ss) → ⊥) → Each (May w) ss → Each (May one.work) ss
    may_on [] d k = tt
    may_on (u ∷ ss) d k = (
      record {
        cell = cell_on c law a own (put (address s) s.cell ∷ []) n s.cell u.cell ptr Anything one.spans w one.work
            one.over of k.0.low (λ e. d (inl (sym e))) k.0.cell;
        low = k.0.low;
        pointer = k.0.pointer;
        leads = ap (λ (env : Env). value_in env (address u)) one.values ∙ k.0.leads;
      },
      may_on ss (λ l. d (inr l)) k.1,
    )

    -- it stays put
    put_on : (ss : List EarlySlot) → (IsListed s.cell (cells_of ss) → ⊥) → (r : ArePut c one.work a address n ss)
        → Cell r.work s.cell (λ (v : Value). v ≡ value_in w.values (address s))
    put_on ss d r =
        let now : Value → Type 0 = λ (v : Value). v ≡ stored Access.Ptr (value_in w.values (address s)) in
        let there : Cell r.work s.cell now =
        cell_stays c.rights law r.spans one.work.world.memory r.work.world.memory a one.work r.work s.cell ptr now
        r.over.fills one.cell_is
        (each_turns
        (λ (z : Span).
        (cell : ℕ) × IsListed cell (cells_of ss) × Contains a.slots (record { alloca = cell; block = z.block }))
        (λ (z : Span). z.block ≢ one.cell_is.block)
        (λ z k. other_block a k.0 s.cell z.block one.cell_is.block own k.2 one.cell_is.own
        (λ e. d (subst (λ (m : ℕ). IsListed m (cells_of ss)) e k.1))) r.spans r.inside)
        (r.over.others s.cell h.low) in
        cell_has c.rights r.work.world.memory (at_work a r.work) s.cell ptr now
        (λ (v : Value). v ≡ value_in w.values (address s))
        (λ v e. e ∙ ap (stored Access.Ptr) h.leads ∙ sym h.leads) there

  pub puts_done : (ss : List EarlySlot) (w : Work) → AreDifferent (cells_of ss) → Each (May w) ss
      → ArePut c w a address n ss
  puts_done [] w d h =
      record { work = w; spans = []; over = over_none c n w; values = refl; inside = tt; put = tt }
  puts_done (s ∷ ss) w d h =
      let t = one w s h.0 in
      let r = puts_done ss t.work d.1 (may_on w s h.0 ss d.0 h.1) in
      record {
        work = r.work;
        spans = t.spans ++ r.spans;
        over = over_joined c (put (address s) s.cell ∷ []) (puts_of address ss) n t.spans r.spans w t.work r.work t.over
            r.over;
        values = r.values ∙ t.values;
        inside = each_joined _ t.spans r.spans
            (each_turns (λ (z : Span). Contains a.slots (record { alloca = s.cell; block = z.block }))
            (λ (z : Span). (cell : ℕ) × IsListed cell (cells_of (s ∷ ss))
            × Contains a.slots (record { alloca = cell; block = z.block }))
            (λ z co. (s.cell, inl refl, co)) t.spans (of w s h.0))
            (each_turns
            (λ (z : Span). (cell : ℕ) × IsListed cell (cells_of ss)
            × Contains a.slots (record { alloca = cell; block = z.block }))
            (λ (z : Span). (cell : ℕ) × IsListed cell (cells_of (s ∷ ss))
            × Contains a.slots (record { alloca = cell; block = z.block }))
            (λ z k. (k.0, inr k.1, k.2)) r.spans r.inside);
        put = (
          put_on w s h.0 ss d.0 r,
          each_turns
              (λ (u : EarlySlot). Cell r.work u.cell (λ (v : Value). v ≡ value_in t.work.values (address u)))
              (λ (u : EarlySlot). Cell r.work u.cell (λ (v : Value). v ≡ value_in w.values (address u)))
              (λ u k. cell_has c.rights r.work.world.memory (at_work a r.work) u.cell ptr
              (λ (v : Value). v ≡ value_in t.work.values (address u))
              (λ (v : Value). v ≡ value_in w.values (address u))
              (λ v e. e ∙ ap (λ (env : Env). value_in env (address u)) t.values) k) ss r.put,
        );
      }
