-- Blocks that an activation has made anew die with it: what may stand there is hidden before.
use Rattle.std.proofs.Common.{◌≡◌, ◌≢◌, ℕ, ◌+◌, ◌<◌, ◌≤◌, ◌⊎◌, inl, inr, Bool, true, false, List, [], ◌∷◌}
use Rattle.std.proofs.Common.{length, Option, Some, None, refl, sym, ap, ◌∙◌, subst, ⊎_elim, arith, ◌||◌, ◌==◌}
use Rattle.std.proofs.lemmas.Bool.{cases_eq, false≢true}
use Rattle.std.specs.Prelude.{slice_get}
use Rattle.pass_kept_proof.specs.ir_model.declared.module.Function.{Function}
use Rattle.pass_kept_proof.specs.ir_model.declared.module.Module.{Module}
use Rattle.pass_kept_proof.specs.ir_paths.declared.point.Point.{Point}
use Rattle.run_laws.proofs.memory.Written.{changed_elsewhere}
use Rattle.run_laws.specs.memory.Pointers.{Home, home_of}
use Rattle.pass_kept_proof.specs.run_memory.Memory.{is_live, killed, killed_block}
use Rattle.pass_kept_proof.specs.run_memory.declared.block.MemoryBlock.{MemoryBlock}
use Rattle.pass_kept_proof.specs.run_source.declared.state.Activation.{Activation}
use Rattle.pass_kept_proof.specs.run_source.declared.state.Instance.{Instance}
use Rattle.pass_renewed_proof.proofs.Carried.{AreBelowCarried, IsCarried, IsInstanceCarried, below_kept}
use Rattle.pass_renewed_proof.proofs.Carried.{instances_kept}
use Rattle.pass_renewed_proof.proofs.Departing.{AreLeft, full_killed, unowned_killed}
use Rattle.pass_renewed_proof.proofs.Marked.{length_with}
use Rattle.pass_renewed_proof.proofs.Places.{hidden_stand, hiding_others, killed_away}
use Rattle.pass_renewed_proof.proofs.Used.{lives_shown, shown_lives}
use Rattle.pass_renewed_proof.specs.Beside.{AreBelow, IsActivationBeside, IsInstanceBeside}
use Rattle.pass_renewed_proof.specs.Beside.{IsSlotBeside, IsTold, MayStand}
use Rattle.pass_renewed_proof.specs.Ledger.{AreEntered, IsAbout, IsFresh, Ledger, Lives, LivesIn, Seat, Seen}
use Rattle.pass_renewed_proof.specs.Muted.{muted}
use Rattle.pass_renewed_proof.specs.Places.{hiding}
use Rattle.pass_renewed_proof.specs.Renewed.{Flags, Roots}

pub same_index : {i j : ℕ} → Some i ≡ Some j → i ≡ j
same_index e = cc

pub or_first : (a b : Bool) → (a || b) ≡ false → a ≡ false
or_first true b e = absurd (false≢true (sym e))
or_first false b e = refl

pub lives_or : (memory : List MemoryBlock) (b : ℕ) → LivesIn memory b ⊎ (LivesIn memory b → ⊥)
lives_or memory b = on (slice_get memory b) refl
  where
    live : (x : MemoryBlock) → slice_get memory b ≡ Some x → (t : Bool) → is_live x.life ≡ t
        → LivesIn memory b ⊎ (LivesIn memory b → ⊥)
    live x e true k = inl (record { block = x; there = e; is_live = k })
    live x e false k = inr (λ h. let q : Some x ≡ Some h.block = sym e ∙ h.there in false≢true (sym k
        ∙ same_life x h.block q ∙ h.is_live))
      where
        same_life : (y z : MemoryBlock) → Some y ≡ Some z → is_live y.life ≡ is_live z.life
        same_life y z q = cc

    on : (o : Option MemoryBlock) → slice_get memory b ≡ o → LivesIn memory b ⊎ (LivesIn memory b → ⊥)
    on None e = inr (λ h. let q : None ≡ Some h.block = sym e ∙ h.there in absurd (cc))
    on (Some x) e = live x e (is_live x.life) refl

-- ---- a block more is hidden

module _ (m : Module) (flags : Flags) (roots : Roots) (xs ys : List Instance) (name : Option ℕ) (as' bs : List
    Activation) (l : Ledger) (memory target : List MemoryBlock) (c depth : ℕ) (owner : l.owners c ≡ Some depth)
    (less : length as' ≤ depth) (h : AreLeft m flags roots l xs ys memory target name as' bs) where
  abbrev e : AreEntered m l memory target
  e = h.entered

  module _ (b : ℕ) (seat : Seat) (seated : l.seats b ≡ Some seat) (unseen : (home_of l.homes b).is_seen ≡ false)
      (block : (home_of l.homes b).block ≡ c) where
    abbrev k : Ledger
    k = record l { hides = hiding l.hides b }

    carried : IsCarried l (record l { hides = hiding l.hides b }) memory memory target target
    carried = record {
      extends = record { each = λ d seen. refl };
      seats = λ d z at. at;
      unseated = λ d seen at. at;
      owners = λ d n at. at;
      tenants = λ d n at. refl;
      ready = λ d n i z at own old. old;
    }

    entered : AreEntered m (record l { hides = hiding l.hides b }) memory target
    entered = record {
      known = e.known;
      hidden = λ d hid. ⊎_elim
          (λ is. ap (λ n. (home_of l.homes n).is_seen) is ∙ unseen)
          (λ ne. e.hidden d (sym (hiding_others l.hides b d ne) ∙ hid))
          (cases_eq d b);
      present = λ d hid. ⊎_elim
          (λ is. subst (λ n. n < length memory) (sym is) (e.seated b seat seated))
          (λ ne. e.present d (sym (hiding_others l.hides b d ne) ∙ hid))
          (cases_eq d b);
      globals = e.globals;
      alone = λ d about. on d about;
      owned = e.owned;
      seated = e.seated;
      kinds = e.kinds;
      shapes = e.shapes;
      placed = e.placed;
      unowned = e.unowned;
      mates = λ d x none at.
          let old = e.mates d x none at in
          record {
            block = old.block;
            home = old.home;
            shown = hiding_others l.hides b d (λ is. let q : None ≡ Some seat = sym none ∙ ap l.seats is ∙ seated
                in absurd (cc)) ∙ old.shown;
            bytes = old.bytes;
            there = old.there;
            owner = old.owner;
          };
      full = e.full;
      quiet = e.quiet;
      shown = e.shown;
      future = e.future;
    }
      where
        on : (d : ℕ) → IsAbout (record l { hides = hiding l.hides b }) memory d
            → l.tenants (home_of l.homes d).block ≡ Some d
        on d (Seen s) = e.alone d (Seen s)
        on d (Lives s) =
            let r = lives_shown (hiding l.hides b) memory d s in
            e.alone d (Lives (shown_lives l.hides memory d (or_first (l.hides d) (d == b) r.0) r.1))

    fresh_on : (d : ℕ) → IsFresh l memory d → IsFresh k memory d
    fresh_on d f = record { unseen = f.unseen; blank = f.blank }

    told_on : (f : Function) (slot d : ℕ) (p : Point) → IsTold l memory f slot d p → IsTold k memory f slot d p
    told_on f slot d p (inl fresh) = inl (fresh_on d fresh)
    told_on f slot d p (inr (inl used)) = inr (inl used)
    told_on f slot d p (inr (inr away)) = inr (inr (record { away = away.away; unseen = away.unseen }))

    -- it stands in no block of another activation
    stand_on : (d n depth' : ℕ) → depth' ≢ depth → l.owners n ≡ Some depth' → MayStand l memory d n
        → MayStand k memory d n
    stand_on d n depth' ne own (inl fresh) = inl (fresh_on d fresh)
    stand_on d n depth' ne own (inr home) = inr (record {
      is_seen = home.is_seen;
      home = home.home;
      shown = hiding_others l.hides b d (λ is. ne (same_index (sym own ∙ ap l.owners (ap (λ (q : Home). q.block) (sym
          home.home) ∙ ap (λ i. (home_of l.homes i).block) is ∙ block) ∙ owner))) ∙ home.shown;
    })

    slot_on : (depth' : ℕ) (a : Activation) (al d n : ℕ) → depth' ≢ depth
        → IsSlotBeside m l xs memory target depth' a al d n → IsSlotBeside m k xs memory target depth' a al d n
    slot_on depth' a al d n ne s = record {
      slot = s.slot;
      passed = s.passed;
      ramp = s.ramp;
      seat = s.seat;
      depth_is = s.depth_is;
      owner = s.owner;
      tenant = s.tenant;
      ready = s.ready;
      first = λ is goes. stand_on d n depth' ne s.owner (s.first is goes);
      resumed = λ is goes. ⊎_elim (λ z. inl (stand_on d n depth' ne s.owner z)) (λ z. inr z) (s.resumed is goes);
      told_first = λ is goes. ⊎_elim (λ z. inl (fresh_on d z)) (λ z. inr z) (s.told_first is goes);
      told = λ is goes. told_on _ _ d _ (s.told is goes);
      alive = s.alive;
      gone = s.gone;
      away = s.away;
    }

    all_on : (below : List Activation) → length below ≤ depth
        → AreBelowCarried m flags roots l k xs xs memory memory target target carried below
    all_on [] le = tt
    all_on (z ∷ below) le = (
      record { over = λ stays o. o; slots = λ al d n flagged s. slot_on (length below) z al d n other s },
      all_on below (omega arith),
    )
      where
        other : length below ≢ depth
        other is = absurd (omega arith)

    each_on : (j : ℕ) (z y : Instance) → slice_get xs j ≡ Some z → IsInstanceBeside m flags roots l memory (0 + j) z y
        → IsInstanceCarried m flags roots l k xs xs memory memory target target carried z
    each_on j z y at ib = record {
      slots = λ p al d suspended flagged s. record {
        slot = s.slot;
        told = told_on _ _ d _ s.told;
        alive = s.alive;
        gone = s.gone;
      };
      gone = λ slot is flagged gone. gone;
    }

    pub hide_one : AreLeft m flags roots (record l { hides = hiding l.hides b }) xs ys memory target name as' bs
    hide_one = record {
      standing = hidden_stand l.homes l.hides memory memory target b unseen (λ d ne. refl) (λ x at. (x, at, refl))
          h.standing;
      entered = entered;
      instances = instances_kept m flags roots l k xs xs memory memory target target carried 0 xs ys each_on
          h.instances;
      below = below_kept m flags roots l k xs xs memory memory target target carried name as' bs (all_on as' less)
          h.below;
    }

  -- ---- nothing stands in the block

  slot_back : (depth' : ℕ) (a : Activation) (al d n : ℕ) → depth' ≢ depth
      → IsSlotBeside m l xs memory target depth' a al d n → IsSlotBeside m l xs memory (killed target c) depth' a al d n
  slot_back depth' a al d n ne s = record {
    slot = s.slot;
    passed = s.passed;
    ramp = s.ramp;
    seat = s.seat;
    depth_is = s.depth_is;
    owner = s.owner;
    tenant = s.tenant;
    ready = λ x at. let r = s.ready x at in record {
      block = r.block;
      there = changed_elsewhere target c n killed_block (λ is. ne (same_index (sym s.owner ∙ ap l.owners is ∙ owner)))
          ∙ r.there;
      live = r.live;
      owner = r.owner;
      whole = r.whole;
      room = r.room;
      small = r.small;
      align = r.align;
      writable = r.writable;
    };
    first = s.first;
    resumed = s.resumed;
    told_first = s.told_first;
    told = s.told;
    alive = s.alive;
    gone = s.gone;
    away = s.away;
  }

  activation_back : (depth' : ℕ) (a b : Activation) → depth' ≢ depth
      → IsActivationBeside m flags roots l xs memory target depth' a b
      → IsActivationBeside m flags roots l xs memory (killed target c) depth' a b
  activation_back depth' a b ne s = record {
    values = s.values;
    slots = s.slots;
    is = s.is;
    envs = s.envs;
    listed = s.listed;
    others = s.others;
    each = λ al d n flagged at there. slot_back depth' a al d n ne (s.each al d n flagged at there);
    made = s.made;
    modes = s.modes;
    came = s.came;
    begun = s.begun;
    begins = s.begins;
    departs = s.departs;
    left = s.left;
  }

  below_back : (name : Option ℕ) (zs ws : List Activation) → length zs ≤ depth
      → AreBelow m flags roots l xs memory target name zs ws
      → AreBelow m flags roots l xs memory (killed target c) name zs ws
  below_back name [] [] le s = tt
  below_back name [] (w ∷ ws) le s = absurd s
  below_back name (z ∷ zs) [] le s = absurd s
  below_back name (z ∷ zs) (w ∷ ws) le s = (
    activation_back (length zs) z w other s.0,
    s.1,
    below_back z.result zs ws (omega arith) s.2,
  )
    where
      other : length zs ≢ depth
      other is = absurd (omega arith)

  pub give_back : ((d : ℕ) (x : MemoryBlock) → slice_get (muted l.hides memory) d ≡ Some x → is_live x.life ≡ true
      → (home_of l.homes d).block ≢ c) → AreLeft m flags roots l xs ys memory (killed target c) name as' bs
  give_back free = record {
    standing = killed_away l.homes (muted l.hides memory) target c free h.standing;
    entered = record {
      known = e.known;
      hidden = e.hidden;
      present = e.present;
      globals = e.globals;
      alone = e.alone;
      owned = λ d n own. subst (λ i. d < i) (sym (length_with target c killed_block)) (e.owned d n own);
      seated = e.seated;
      kinds = e.kinds;
      shapes = e.shapes;
      placed = e.placed;
      unowned = λ d n y own at. unowned_killed target c d y (λ z there. e.unowned d n z own there) at;
      mates = λ d x none at.
          let old = e.mates d x none at in
          record {
            block = old.block;
            home = old.home;
            shown = old.shown;
            bytes = old.bytes;
            there = changed_elsewhere target c old.block killed_block (λ is. let q : None ≡ Some depth = sym old.owner
                ∙ ap l.owners is ∙ owner in absurd (cc)) ∙ old.there;
            owner = old.owner;
          };
      full = λ d. full_killed target c d (e.full d);
      quiet = e.quiet;
      shown = e.shown;
      future = e.future;
    };
    instances = h.instances;
    below = below_back name as' bs less h.below;
  }
