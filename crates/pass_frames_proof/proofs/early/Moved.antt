-- A block whose bytes were copied comes to stand where they are.
use Rattle.std.proofs.Common.{◌≡◌, ◌+◌, ◌≤◌, ◌∙◌, List, Some, ap, arith, get_or-set_other, length, refl, set, subst, sym, true}
use Rattle.std.proofs.lemmas.List.{get_or-set_same, length-set}
use Rattle.std.specs.Prelude.{slice_get}
use Rattle.pass_frames_steps.specs.Early.{IsCopiedTo, MayComeThere}
use Rattle.pass_frames_steps.proofs.run_laws.memory.Homes.{byte_on, move_extends}
use Rattle.pass_frames_steps.proofs.run_laws.transfer.Places.{seated}
use Rattle.pass_frames_steps.specs.run_laws.memory.Pointers.{Extends, Home, IsByte, home_of, nowhere}
use Rattle.pass_frames_steps.specs.run_laws.memory.Standing.{HasRights, Stands, byte_of}
use Rattle.pass_frames_steps.specs.run_laws.transfer.Places.{AreStanding, IsApartFrom, MayBeSeen}
use Rattle.pass_frames_steps.specs.run_laws.transfer.Ready.{Place, home_at}
use Rattle.pass_frames_steps.specs.run_memory.Memory.{Rights, is_live}
use Rattle.pass_frames_steps.specs.run_memory.declared.block.MemoryBlock.{MemoryBlock}

module _ (rights target : Rights) (homes : List Home) (m n : List MemoryBlock) (p : Place)
    (h : MayComeThere rights target homes m n p) (st : AreStanding rights target homes m n) where
  abbrev more : List Home
  more = set homes p.block (home_at p)

  long : length more ≡ length homes
  long = length-set homes p.block (home_at p)

  here : home_of more p.block ≡ home_at p
  here = get_or-set_same homes p.block (home_at p) nowhere h.known

  extends : Extends homes more
  extends = move_extends homes p.block (home_at p) h.unseen

  stands : (x : MemoryBlock) → slice_get m p.block ≡ Some x → is_live x.life ≡ true
      → Stands rights target more n p.block x
  stands x e live = record {
    known = let lt = h.known in let same = long in omega (arith, lt, same);
    block = c.room.block;
    there = ap (λ (q : Home). slice_get n q.block) here ∙ c.room.there;
    live = c.room.live;
    full = old.full;
    whole = c.room.whole;
    fits = subst (λ (q : Home). q.offset + x.size ≤ c.room.block.size) (sym here) c.room.fits;
    small = c.room.small;
    writable = c.room.writable;
    allowed = subst (λ (q : Home). HasRights rights target q p.block x c.room.block) (sym here) c.room.allowed;
    bytes = λ i lt open_there.
        subst (λ (q : Home). IsByte more (byte_of x i) (byte_of c.room.block (q.offset + i))) (sym here)
        (subst (IsByte more (byte_of x i)) (sym (c.same old.block old.there i lt))
        (byte_on homes more extends (byte_of x i) (byte_of old.block ((home_of homes p.block).offset + i))
        (old.bytes i lt open_there)));
  }
    where
      old : Stands rights target homes n p.block x
      old = st.memory.each p.block x e live

      c : IsCopiedTo rights target homes m n p x
      c = h.copied x e live

  pub came_there : AreStanding rights target (set homes p.block (home_at p)) m n
  came_there =
      seated rights target homes more m m n p.block (record {
        extends = extends;
        long = let same = long in omega (arith, same);
        others = λ d ne. get_or-set_other homes p.block d (home_at p) nowhere ne;
        same = λ d ne. refl;
        stands = stands;
        apart = λ x e live.
            subst (λ (q : Home). IsApartFrom rights homes m q p.block x) (sym here) (h.copied x e live).apart;
        seen = λ s.
            subst (λ (q : Home). MayBeSeen rights target n q p.block (slice_get m p.block)) (sym here) h.seen;
      }) st
