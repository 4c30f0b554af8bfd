-- Both runs make a block: it stands alone in the target's new one.
use Rattle.std.proofs.Common.{◌≡◌, ◌≢◌, ◌<◌, ◌^◌, ◌∷◌, ◌++◌, ◌∙◌, [], if◌then◌else◌, Bool, List, Some, ap, arith, false, length, refl, subst, suc, sym, true, ℕ}
use Rattle.std.proofs.lemmas.List.{length-replicate}
use Rattle.std.specs.Prelude.{slice_get}
use Rattle.pass_frames_code.proofs.ir_laws.facts.Lists.{get_within}
use Rattle.pass_frames_steps.proofs.allocating.Grown.{end_get, mates_more, still_get}
use Rattle.pass_frames_steps.proofs.allocating.Rights.{frames_compare, outside_rights}
use Rattle.pass_frames_code.proofs.stepping.Rest.{got, seen_known}
use Rattle.pass_frames_code.specs.Related.{AreBuiltOf, AreMates, Building}
use Rattle.pass_frames_code.specs.run_framed.Framed.{frame_rights}
use Rattle.pass_frames_code.proofs.run_laws.memory.Written.{same_some}
use Rattle.pass_frames_code.proofs.run_laws.transfer.Grown.{made_together}
use Rattle.pass_frames_code.proofs.run_laws.transfer.Muted.{muted_length}
use Rattle.pass_frames_code.specs.run_laws.changed.Changed.{Each}
use Rattle.pass_frames_code.specs.run_laws.embedded.Making.{whole_home}
use Rattle.pass_frames_code.specs.run_laws.memory.Pointers.{Home, home_of}
use Rattle.pass_frames_code.specs.run_laws.memory.Standing.{HasBounds, blank_block}
use Rattle.pass_frames_code.specs.run_laws.transfer.Muted.{muted}
use Rattle.pass_frames_code.specs.run_laws.transfer.Places.{AreBothNew, AreStanding, AreThere, HasRoom}
use Rattle.pass_frames_code.specs.run_memory.Memory.{Rights, end, ended, fresh, is_live, owner_rights, with_block}
use Rattle.pass_frames_code.specs.run_memory.declared.block.Byte.{Byte}
use Rattle.pass_frames_code.specs.run_memory.declared.block.Kind.{Kind}
use Rattle.pass_frames_code.specs.run_memory.declared.block.Life.{Life}
use Rattle.pass_frames_code.specs.run_memory.declared.block.MemoryBlock.{MemoryBlock}
use Rattle.pass_frames_code.specs.run_source.declared.state.Instance.{Instance}
use Rattle.pass_frames_code.specs.run_source.declared.state.State.{State}

-- ---- a block at the end

pub end_block : (m : List MemoryBlock) (x : MemoryBlock) (f : MemoryBlock → MemoryBlock)
    → with_block (m ++ x ∷ []) (length m) f ≡ m ++ f x ∷ []
end_block [] x f = refl
end_block (y ∷ m) x f = ap (λ (k : List MemoryBlock). y ∷ k) (end_block m x f)

-- a new block, which has ended at first if it has markers
abbrev pub new_block : Bool → ℕ → ℕ → Kind → MemoryBlock
new_block ends size align kind = record (blank_block size align kind) { life = if ends then Life.Ended else Life.Live }

pub made_memory : (ends : Bool) (m : List MemoryBlock) (size align : ℕ) (kind : Kind)
    → (if ends then end (fresh m size align kind) (length m) else fresh m size align kind)
    ≡ m ++ new_block ends size align kind ∷ []
made_memory true m size align kind = end_block m (blank_block size align kind) ended
made_memory false m size align kind = refl

pub each_index : {A : Type 0} (P : A → Type 0) (xs : List A) → ((i : ℕ) (x : A) → slice_get xs i ≡ Some x → P x)
    → Each P xs
each_index P [] h = tt
each_index P (x ∷ xs) h = (h 0 x refl, each_index P xs (λ i z e. h (suc i) z e))

module _ (b : Building) (s t : State) (r : AreBuiltOf b s t) where
  abbrev R : Rights
  R = frame_rights b.given t.instances

  abbrev k : ℕ
  k = length t.world.memory

  -- the blocks into which pointers may be about have homes that are there
  pub homes_there : AreThere r.homes t.world.memory
  homes_there n seen =
      let lt : n < length r.homes = seen_known r.homes n seen in
      let known : length r.homes ≡ length s.world.memory = r.known in
      let long : length (muted r.hides s.world.memory) ≡ length s.world.memory = muted_length r.hides s.world.memory in
      let x = got (muted r.hides s.world.memory) n (omega (arith, lt, known, long)) in
      let h = r.world.bounds.each n x.0 seen x.1 in
      (h.block, h.there)

  pub seen_below : (n : ℕ) → (home_of r.homes n).is_seen ≡ true → (home_of r.homes n).block < k
  seen_below n seen = let y = homes_there n seen in get_within t.world.memory (home_of r.homes n).block y.0 y.1

  -- no frame lies in a block that is still to come
  frames_elsewhere : Each (λ (y : Instance). y.block ≢ k) t.instances
  frames_elsewhere = each_index (λ (y : Instance). y.block ≢ k) t.instances apart
    where
      apart : (i : ℕ) (y : Instance) → slice_get t.instances i ≡ Some y → y.block ≢ k
      apart i y e same =
          let lt : i < length t.instances = get_within t.instances i y e in
          let many : length t.instances ≡ length s.instances = r.count in
          let x = got s.instances i (omega (arith, lt, many)) in
          let h = (r.instances i x.0 y x.1 e).block in
          let low : (home_of r.homes x.0.block).block < k =
          seen_below x.0.block (ap (λ (q : Home). q.is_seen) h) in
          let at : (home_of r.homes x.0.block).block ≡ y.block = ap (λ (q : Home). q.block) h in
          omega (arith, low, at, same)

  module _ (ends : Bool) (size align : ℕ) (kind : Kind) (small : size < 2 ^ 64) where
    abbrev x : MemoryBlock
    x = new_block ends size align kind

    new_room : (c : Bool) → is_live (new_block c size align kind).life ≡ true
        → HasRoom owner_rights R (t.world.memory ++ new_block c size align kind ∷ []) (whole_home k)
        (length s.world.memory) (new_block c size align kind)
    new_room true live = absurd (cc)
    new_room false live = record {
      block = new_block false size align kind;
      there = end_get t.world.memory (new_block false size align kind);
      live = refl;
      whole = length-replicate size Byte.Undefined;
      fits = omega arith;
      small = small;
      writable = λ e. e;
      allowed = outside_rights b.given t.instances k frames_elsewhere (length s.world.memory)
          (new_block false size align kind) (new_block false size align kind) true refl;
    }

    seen_bounds : (z : MemoryBlock) → Some x ≡ Some z → HasBounds (t.world.memory ++ x ∷ []) (whole_home k) z.size
    seen_bounds z e =
        let is : x ≡ z = same_some x z e in
        record {
          block = x;
          there = end_get t.world.memory x;
          fits = let same : size ≡ z.size = ap (λ (u : MemoryBlock). u.size) is in omega (arith, same);
          small = small;
        }

    both_new : AreBothNew owner_rights R r.homes (muted r.hides s.world.memory) t.world.memory x x
    both_new = record {
      known = r.known ∙ sym (muted_length r.hides s.world.memory);
      there = homes_there;
      blank = λ live. refl;
      room = λ live.
          subst (λ (n : ℕ). HasRoom owner_rights R (t.world.memory ++ x ∷ []) (whole_home k) n x)
          (sym (muted_length r.hides s.world.memory)) (new_room ends live);
      seen = record { nulls = λ o e. frames_compare b.given t.instances k _ _; bounds = seen_bounds };
    }

    -- the source with its new block stands in the target with its own
    pub stands_together : AreStanding owner_rights R (r.homes ++ whole_home k ∷ [])
        (muted r.hides s.world.memory ++ x ∷ []) (t.world.memory ++ x ∷ [])
    stands_together =
        made_together owner_rights R r.homes (muted r.hides s.world.memory) t.world.memory x x both_new
        (record { memory = r.world.memory; nulls = r.world.nulls; bounds = r.world.bounds })

    -- it is a mate of the other
    pub mates_together : (shows : ℕ → Bool) → ((c : ℕ) → c ≢ length s.world.memory → shows c ≡ r.hides c)
        → AreMates (r.homes ++ whole_home k ∷ []) (s.world.memory ++ x ∷ []) (t.world.memory ++ x ∷ [])
    mates_together shows alike =
        mates_more r.homes r.hides shows s.world.memory (whole_home k) x r.known alike t.world.memory
        (t.world.memory ++ x ∷ []) (λ n z e. still_get t.world.memory x z n e) (λ no_slot. (k, refl))
        (λ n e. (
          x.bytes,
          subst (λ (d : ℕ). slice_get (t.world.memory ++ x ∷ []) d ≡ Some x) (ap (λ (q : Home). q.block) e)
              (end_get t.world.memory x),
        ))
        (λ n d e lt home.
        let at : (home_of r.homes d).block ≡ n = ap (λ (q : Home). q.block) home in
        let low : (home_of r.homes d).block < k = seen_below d (ap (λ (q : Home). q.is_seen) home) in
        let is : k ≡ n = ap (λ (q : Home). q.block) e in
        omega (arith, at, low, is)) r.mates
