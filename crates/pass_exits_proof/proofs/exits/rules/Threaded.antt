-- With blocks on the edges that leave windows, edges lead over blocks of their own that hold a jump alone.
use Rattle.std.proofs.Common.{◌≡◌, inl, inr, ⊎_elim, ℕ, suc, ◌+◌, Bool, true, false, List, [], ◌∷◌, None, Some, refl, sym, ap, ◌∙◌, subst}
use Rattle.std.specs.Prelude.{slice_get}
use Rattle.pass_fetch_proof.proofs.rule_laws.rules.source_rules.Locals.{own_label}
use Rattle.pass_fetch_proof.proofs.edges.rules.EdgeUses.{label_there}
use Rattle.pass_fetch_proof.specs.edges.rules.Phis.{ArePhisEnteredByJumps}
use Rattle.pass_edges.specs.Edges.{has_phis}
use Rattle.pass_fetch_proof.specs.flow_solver.Paths.{IsListed}
use Rattle.pass_fetch_proof.specs.rule_laws.rules.function_rules.Kept.{KeepsFunctionRules}
use Rattle.ir_model.specs.Names.{position_of}
use Rattle.ir_model.specs.declared.instr.Phi.{Phi}
use Rattle.ir_model.specs.declared.module.Block.{Block}
use Rattle.ir_model.specs.declared.module.Function.{Function}
use Rattle.ir_model.specs.declared.module.Module.{Module}
use Rattle.pass_fetch_proof.specs.ir_paths.Paths.{targets}
use Rattle.pass_split.specs.pass_exits.ExitBlocks.{exit_block, exit_term, with_exit_blocks}
use Rattle.pass_split.specs.pass_exits.Exits.{block_exits, mark_of}
use Rattle.pass_split.specs.pass_exits.declared.exit.Exit.{Exit}
use Rattle.pass_exits_proof.proofs.exits.rules.Cuts.{Cut, IsMarked, IsTaken, cut_back, cut_forth, cut_targets, taken}
use Rattle.pass_fetch_proof.proofs.rule_laws.rules.threaded.Labels.{HasBlock, target_there}
use Rattle.pass_exits_proof.proofs.exits.rules.Names.{names_once}
use Rattle.pass_exits_proof.proofs.exits.rules.Operands.{ending_operands_same}
use Rattle.pass_exits_proof.proofs.exits.rules.Places.{IsExit, IsOwn, exit_spots, exit_there, home, none_there, own_number, own_there, spot, spots_apart, spots_no_exit}
use Rattle.pass_exits_proof.proofs.exits.rules.Single.{phis_unmarked}
use Rattle.pass_fetch_proof.proofs.ir_laws.paths.threaded.Threads.{IsBlockOver, IsOver, IsWay, LeadsBack, LeadsForth, Moves, between}
use Rattle.pass_fetch_proof.proofs.rule_laws.rules.threaded.Threads.{IsThreaded}

abbrev pub moves : Function → Moves
moves f = record { spot = spot f; term = λ k b. exit_term f k (own_number f k) b.term }

none_of_phis : (ps : List Phi) → has_phis ps ≡ false → ps ≡ []
none_of_phis [] e = refl
none_of_phis (p ∷ ps) e = absurd (cc)

module _ (m : Module) (func : ℕ) (f : Function) (rules : KeepsFunctionRules m func f) where
  g : Function
  g = with_exit_blocks f

  -- each label is that of one block
  pub label_once : (k : ℕ) (b : Block) → slice_get (with_exit_blocks f).blocks k ≡ Some b → position_of (with_exit_blocks f) b.label ≡ k
  label_once = own_label func (with_exit_blocks f) (names_once func f rules.tabled rules.definitions)

  pub own_position : (k : ℕ) (b : Block) → slice_get f.blocks k ≡ Some b → position_of (with_exit_blocks f) b.label ≡ spot f k
  own_position k b there = label_once (spot f k) (record { label = b.label; phis = b.phis; instrs = b.instrs; term = exit_term f k (own_number f k) b.term }) (own_there f k b there)

  exit_position : (k : ℕ) (b : Block) (i : ℕ) (e : Exit) → slice_get f.blocks k ≡ Some b → slice_get (block_exits f k b) i ≡ Some e → position_of (with_exit_blocks f) (own_number f k + i) ≡ spot f k + suc i
  exit_position k b i e there got = label_once (spot f k + suc i) (exit_block (own_number f k + i) e) (exit_there f k b i e there got)

  pub old_position : (label : ℕ) → HasBlock f label → position_of (with_exit_blocks f) label ≡ spot f (position_of f label)
  old_position label x = ap (position_of (with_exit_blocks f)) (sym x.is_label) ∙ own_position (position_of f label) x.block x.there

  to_old : (k : ℕ) (b : Block) (target : ℕ) → slice_get f.blocks k ≡ Some b → IsListed target (targets b.term) → position_of (with_exit_blocks f) target ≡ spot f (position_of f target)
  to_old k b target there l = old_position target (target_there m func f rules.definitions rules.known k b target there l)

  abbrev CutOf : ℕ → Block → ℕ → ℕ → Type 0
  CutOf k b t l = Cut f k b.label (own_number f k) (block_exits f k b) t l

  back_cut : (k : ℕ) (b : Block) (l : ℕ) → IsListed l (targets (exit_term f k (own_number f k) b.term)) → (t : ℕ) × (IsListed t (targets b.term) × CutOf k b t l)
  back_cut k b l h = cut_back f k b.label (own_number f k) (targets b.term) l (subst (IsListed l) (cut_targets f k b.label (own_number f k) b.term) h)

  module _ (jumps : ArePhisEnteredByJumps f) where
    over : (k : ℕ) (b : Block) (t l : ℕ) → slice_get f.blocks k ≡ Some b → IsListed t (targets b.term) → IsMarked f k b.label (own_number f k) (block_exits f k b) t l → IsOver f (with_exit_blocks f) (moves f) k t l
    over k b t l there listed x = record {
      got = ap (slice_get (with_exit_blocks f).blocks) here ∙ exit_there f k b x.index x.exit there x.got ∙ (λ i. Some (between (sym x.label i) (x.target i)));
      next = to_old k b t there listed;
      apart = λ j e. spots_no_exit f k b x.index x.exit there x.got j (e ∙ here);
      one = one;
      unphied = unphied;
    }
      where
        here : position_of (with_exit_blocks f) l ≡ spot f k + suc x.index
        here = ap (position_of (with_exit_blocks f)) x.label ∙ exit_position k b x.index x.exit there x.got

        one : (j : ℕ) (c : Block) → slice_get f.blocks j ≡ Some c → IsListed l (targets (exit_term f j (own_number f j) c.term)) → j ≡ k
        one j c at h = by (back_cut j c l h)
          where
            by : (u : ℕ) × (IsListed u (targets c.term) × CutOf j c u l) → j ≡ k
            by z = ⊎_elim
                (λ (d : (l ≡ u) × (mark_of f j u ≡ None)). absurd (spots_no_exit f k b x.index x.exit there x.got (position_of f u) (sym (to_old j c u at z.1.0) ∙ ap (position_of (with_exit_blocks f)) (sym d.0) ∙ here)))
                (λ (y : IsMarked f j c.label (own_number f j) (block_exits f j c) u l).
                exit_spots f j k c b y.index x.index y.exit x.exit at y.got there x.got
                (sym (exit_position j c y.index y.exit at y.got) ∙ ap (position_of (with_exit_blocks f)) (sym y.label) ∙ here))
                z.1.1
              where
                u : ℕ
                u = z.0

        unphied : (c : Block) → slice_get f.blocks (position_of f t) ≡ Some c → c.phis ≡ []
        unphied c at = on (has_phis c.phis) refl
          where
            label : c.label ≡ t
            label = label_there f t (position_of f t) c refl at

            on : (s : Bool) → has_phis c.phis ≡ s → c.phis ≡ []
            on false e = none_of_phis c.phis e
            on true e =
                let none : mark_of f k c.label ≡ None = phis_unmarked f jumps (position_of f t) k c b at e there (subst (λ (n : ℕ). IsListed n (targets b.term)) (sym label) listed) in
                let no : Some x.exit.suspend ≡ None = sym x.mark ∙ ap (mark_of f k) (sym label) ∙ none in
                absurd (cc)

    pub way : (k : ℕ) (b : Block) (t l : ℕ) → slice_get f.blocks k ≡ Some b → IsListed t (targets b.term) → CutOf k b t l → IsWay f (with_exit_blocks f) (moves f) k t l
    way k b t l there listed (inl d) = inl d.0
    way k b t l there listed (inr x) = inr (over k b t l there listed x)

    leads_forth : (k : ℕ) (b : Block) (t : ℕ) → slice_get f.blocks k ≡ Some b → IsListed t (targets b.term) → LeadsForth f (with_exit_blocks f) (moves f) k b t
    leads_forth k b t there listed =
        let x = cut_forth f k b.label (own_number f k) (targets b.term) t listed in
        record { label = x.0; named = subst (IsListed x.0) (sym (cut_targets f k b.label (own_number f k) b.term)) x.1.0; way = way k b t x.0 there listed x.1.1 }

    leads_back : (k : ℕ) (b : Block) (l : ℕ) → slice_get f.blocks k ≡ Some b → IsListed l (targets (exit_term f k (own_number f k) b.term)) → LeadsBack f (with_exit_blocks f) (moves f) k b l
    leads_back k b l there h = let x = back_cut k b l h in record { target = x.0; listed = x.1.0; way = way k b x.0 l there x.1.0 x.1.1 }

    exit_home : (at : ℕ) (c : Block) → IsExit f at c → IsBlockOver f (with_exit_blocks f) (moves f) at c
    exit_home at c x =
        let t : IsTaken f x.index x.block.label (own_number f x.index) (targets x.block.term) x.position x.exit = taken f x.index x.block.label (own_number f x.index) (targets x.block.term) x.position x.exit x.there in
        record {
          index = x.index;
          block = x.block;
          got = x.got;
          target = x.exit.target;
          label = own_number f x.index + x.position;
          listed = t.target;
          named = subst (IsListed (own_number f x.index + x.position)) (sym (cut_targets f x.index x.block.label (own_number f x.index) x.block.term)) t.label;
          over = over x.index x.block x.exit.target (own_number f x.index + x.position) x.got t.target (record { index = x.position; exit = x.exit; got = x.there; target = refl; label = refl; mark = t.mark });
          stands = x.stands ∙ sym (exit_position x.index x.block x.position x.exit x.got x.there);
          is = x.is;
        }

    pub threaded : IsThreaded f (with_exit_blocks f) (moves f)
    threaded = record {
      params = refl;
      entry = refl;
      spots = spots_apart f;
      there = own_there f;
      missing = none_there f;
      home = λ at c e. ⊎_elim
          (λ (x : IsOwn f at c). inl (record { index = x.index; block = x.block; got = x.got; stands = x.stands; is = x.is }))
          (λ (x : IsExit f at c). inr (exit_home at c x))
          (home f at c e);
      old = to_old;
      forth = leads_forth;
      back = leads_back;
      operands = λ k b. ending_operands_same f k (own_number f k) b.term;
    }
