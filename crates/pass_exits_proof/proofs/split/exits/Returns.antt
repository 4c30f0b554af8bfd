-- Where edges lead over blocks of their own, the labels and returns to which paths lead are those to which they led.
use Rattle.std.proofs.Common.{◌≡◌, inl, inr, ⊎_elim, ℕ, true, false, List, [], ◌∷◌, None, Option, Some, ap, refl, subst, sym, ◌∙◌}
use Rattle.std.specs.Prelude.{slice_get}
use Rattle.pass_split.specs.Reached.{entry_of, targets_in}
use Rattle.pass_fetch_proof.proofs.edges.rules.EdgeUses.{label_there}
use Rattle.pass_fetch_proof.specs.flow_solver.Paths.{IsListed}
use Rattle.ir_model.specs.Names.{position_of}
use Rattle.ir_model.specs.declared.module.Block.{Block}
use Rattle.ir_model.specs.declared.module.Function.{Function}
use Rattle.pass_fetch_proof.specs.ir_paths.Paths.{targets}
use Rattle.pass_exits_proof.specs.split.rules.Reached.{Edge, Entry, IsLedTo}
use Rattle.pass_fetch_proof.specs.rule_laws.frames.replaced.Splittable.{Across, Here, LeadsToReturn, is_return}
use Rattle.pass_fetch_proof.specs.frame_crossing.Paths.{IsOutside}
use Rattle.pass_fetch_proof.proofs.ir_laws.paths.threaded.Threads.{IsBlockOver, IsMovedBlock, IsOver, LeadsBack, Moves, between, ended}
use Rattle.pass_fetch_proof.proofs.rule_laws.rules.threaded.Threads.{IsThreaded}

same_block : (f : Function) (k : ℕ) (b c : Block) → slice_get f.blocks k ≡ Some b → slice_get f.blocks k ≡ Some c → b ≡ c
same_block f k b c e d = let both : Some b ≡ Some c = sym e ∙ d in cc

module _ (f g : Function) (s : Moves) (t : IsThreaded f g s) where
  -- ---- returns

  module _ (outside : (b : ℕ) → IsOutside g (s.spot b) → IsOutside f b) (returns : (k : ℕ) (b : Block) → is_return (s.term k b) ≡ is_return b.term) where
    record Returns (x : ℕ) : Type 0 where
      own : (k : ℕ) → x ≡ s.spot k → LeadsToReturn f k
      over : (k target label : ℕ) → IsOver f g s k target label → x ≡ position_of g label → LeadsToReturn f (position_of f target)

    own_there : (k : ℕ) (c : Block) → slice_get g.blocks (s.spot k) ≡ Some c → (b : Block) × ((slice_get f.blocks k ≡ Some b) × (c ≡ ended b (s.term k b)))
    own_there k c e = on (slice_get f.blocks k) refl
      where
        on : (o : Option Block) → slice_get f.blocks k ≡ o → (b : Block) × ((slice_get f.blocks k ≡ Some b) × (c ≡ ended b (s.term k b)))
        on None d = let no : Some c ≡ None = sym e ∙ t.missing k d in absurd (cc)
        on (Some b) d = (b, (d, same_block g (s.spot k) c (ended b (s.term k b)) e (t.there k b d)))

    over_there : (k target label x : ℕ) (c : Block) → IsOver f g s k target label → x ≡ position_of g label → slice_get g.blocks x ≡ Some c → c ≡ between label target
    over_there k target label x c o same e = same_block g (position_of g label) c (between label target) (ap (slice_get g.blocks) (sym same) ∙ e) o.got

    returns_back : (x : ℕ) → LeadsToReturn g x → Returns x
    returns_back _ (Here x c out there ends) = record {
      own = λ k same.
          let y = own_there k c (ap (slice_get g.blocks) (sym same) ∙ there) in
          Here k y.0 (outside k (subst (IsOutside g) same out)) y.1.0 (sym (returns k y.0) ∙ ap (λ (b : Block). is_return b.term) (sym y.1.1) ∙ ends);
      over = λ k target label o same.
          let is = over_there k target label x c o same there in
          let no : false ≡ true = ap (λ (b : Block). is_return b.term) (sym is) ∙ ends in
          absurd (cc);
    }
    returns_back _ (Across x label c out there l rest) = on (returns_back (position_of g label) rest)
      where
        on : Returns (position_of g label) → Returns x
        on again = record {
          own = λ k same. own_step k (outside k (subst (IsOutside g) same out)) (own_there k c (ap (slice_get g.blocks) (sym same) ∙ there));
          over = λ k target w o same. again.own (position_of f target) (ap (position_of g) (only target (subst (λ (b : Block). IsListed label (targets b.term)) (over_there k target w x c o same there) l)) ∙ o.next);
        }
          where
            only : (target : ℕ) → IsListed label (target ∷ []) → label ≡ target
            only target (inl e) = e
            only target (inr m) = absurd m

            own_step : (k : ℕ) → IsOutside f k → (b : Block) × ((slice_get f.blocks k ≡ Some b) × (c ≡ ended b (s.term k b))) → LeadsToReturn f k
            own_step k outside_it y = by (t.back k y.0 label y.1.0 (subst (λ (b : Block). IsListed label (targets b.term)) y.1.1 l))
              where
                by : LeadsBack f g s k y.0 label → LeadsToReturn f k
                by z = Across k z.target y.0 outside_it y.1.0 z.listed
                    (⊎_elim
                    (λ (d : label ≡ z.target). again.own (position_of f z.target) (ap (position_of g) d ∙ t.old k y.0 z.target y.1.0 z.listed))
                    (λ (o : IsOver f g s k z.target label). again.over k z.target label o refl)
                    z.way)

    pub return_home : (label : ℕ) → position_of g label ≡ s.spot (position_of f label) → LeadsToReturn g (position_of g label) → LeadsToReturn f (position_of f label)
    return_home label e h = (returns_back (position_of g label) h).own (position_of f label) e

  -- ---- labels to which paths lead

  module _ (first : entry_of g.blocks ≡ entry_of f.blocks) (labels : (k : ℕ) (b : Block) → slice_get f.blocks k ≡ Some b → position_of g b.label ≡ s.spot k) (once : (k : ℕ) (b : Block) → slice_get f.blocks k ≡ Some b → position_of f b.label ≡ k) where
    record Led (label : ℕ) : Type 0 where
      own : (k : ℕ) (b : Block) → slice_get f.blocks k ≡ Some b → b.label ≡ label → IsLedTo f label
      over : (k : ℕ) (b : Block) (target : ℕ) → slice_get f.blocks k ≡ Some b → IsListed label (targets (s.term k b)) → IsOver f g s k target label → IsLedTo f b.label

    entry_listed : (label : ℕ) (bs : List Block) → IsListed label (entry_of bs) → (b : Block) × ((slice_get bs 0 ≡ Some b) × (b.label ≡ label))
    entry_listed label [] l = absurd l
    entry_listed label (b ∷ bs) (inl e) = (b, (refl, sym e))
    entry_listed label (b ∷ bs) (inr l) = absurd l

    -- an edge of a block to which a path leads
    step : (k : ℕ) (b : Block) (target : ℕ) → slice_get f.blocks k ≡ Some b → IsLedTo f b.label → IsListed target (targets b.term) → IsLedTo f target
    step k b target there led l =
        Edge b.label target led (subst (λ (o : Option Block). IsListed target (targets_in o)) (sym (ap (slice_get f.blocks) (once k b there) ∙ there)) l)

    -- at the block that has the label nothing else stands
    old_led : (label target : ℕ) → label ≡ target → position_of g target ≡ s.spot (position_of f target) → IsLedTo f target → Led label
    old_led label target e at led = record {
      own = λ k b there is. subst (IsLedTo f) (sym e) led;
      over = λ k b u there l o. absurd (o.apart (position_of f target) (sym at ∙ ap (position_of g) (sym e)));
    }

    new_led : (k : ℕ) (b : Block) (target label : ℕ) → slice_get f.blocks k ≡ Some b → IsOver f g s k target label → IsLedTo f b.label → Led label
    new_led k b target label there o led = record {
      own = λ j c here is. absurd (o.apart j (sym (labels j c here) ∙ ap (position_of g) is));
      over = λ j c u here l w.
          let one : j ≡ k = o.one j c here l in
          subst (λ (x : Block). IsLedTo f x.label) (same_block f k b c there (ap (slice_get f.blocks) (sym one) ∙ here)) led;
    }

    led_back : (label : ℕ) → IsLedTo g label → Led label
    led_back _ (Entry label l) =
        let x = entry_listed label f.blocks (subst (IsListed label) first l) in
        old_led label x.0.label (sym x.1.1) (labels 0 x.0 x.1.0 ∙ ap s.spot (sym (once 0 x.0 x.1.0))) (Entry x.0.label (subst (λ (n : ℕ). IsListed n (entry_of f.blocks)) (sym x.1.1) (subst (IsListed label) first l)))
    led_back _ (Edge from label h l) = on (slice_get g.blocks (position_of g from)) refl l (led_back from h)
      where
        on : (o : Option Block) → slice_get g.blocks (position_of g from) ≡ o → IsListed label (targets_in o) → Led from → Led label
        on None e m again = absurd m
        on (Some c) e m again = ⊎_elim of_own of_over (t.home (position_of g from) c e)
          where
            name : c.label ≡ from
            name = label_there g from (position_of g from) c refl e

            of_own : IsMovedBlock f s (position_of g from) c → Led label
            of_own x = by (t.back x.index x.block label x.got (subst (λ (b : Block). IsListed label (targets b.term)) x.is m))
              where
                same : x.block.label ≡ from
                same = ap (λ (b : Block). b.label) (sym x.is) ∙ name

                led : IsLedTo f x.block.label
                led = subst (IsLedTo f) (sym same) (again.own x.index x.block x.got same)

                by : LeadsBack f g s x.index x.block label → Led label
                by z = ⊎_elim
                    (λ (d : label ≡ z.target). old_led label z.target d (t.old x.index x.block z.target x.got z.listed) (step x.index x.block z.target x.got led z.listed))
                    (λ (o : IsOver f g s x.index z.target label). new_led x.index x.block z.target label x.got o led)
                    z.way

            of_over : IsBlockOver f g s (position_of g from) c → Led label
            of_over x =
                let same : x.label ≡ from = ap (λ (b : Block). b.label) (sym x.is) ∙ name in
                let led : IsLedTo f x.block.label = again.over x.index x.block x.target x.got (subst (λ (n : ℕ). IsListed n (targets (s.term x.index x.block))) same x.named) (subst (IsOver f g s x.index x.target) same x.over) in
                old_led label x.target (only (subst (λ (b : Block). IsListed label (targets b.term)) x.is m)) x.over.next (step x.index x.block x.target x.got led x.listed)
              where
                only : IsListed label (x.target ∷ []) → label ≡ x.target
                only (inl d) = d
                only (inr m) = absurd m

    pub led_home : (k : ℕ) (b : Block) → slice_get f.blocks k ≡ Some b → IsLedTo g b.label → IsLedTo f b.label
    led_home k b there h = (led_back b.label h).own k b there refl
