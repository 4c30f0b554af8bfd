-- The rights of owners serve new blocks, and slots that live again.
use Rattle.std.proofs.Common.{◌≡◌, ℕ, ◌+◌, ◌%◌, ◌^◌, Bool, true, false, not, List, Option, Some, None, refl, sym, ap, ◌∙◌, subst, arith, if◌then◌else◌, ◌&&◌, ◌||◌, ◌==◌, nat_le}
use Rattle.std.specs.Prelude.{slice_get}
use Rattle.run_memory.specs.Memory.{is_below, is_killed, is_live, may_compare, may_compare_at, meets, owner_rights, started}
use Rattle.run_memory.specs.Pointers.{moved}
use Rattle.run_memory.specs.declared.block.Kind.{Kind}
use Rattle.run_memory.specs.declared.block.MemoryBlock.{MemoryBlock}
use Rattle.run_memory.specs.declared.pointer.Offset.{Offset}
use Rattle.run_laws.proofs.memory.Written.{changed_here, same_some}
use Rattle.run_laws.specs.memory.Pointers.{Home, home_of}
use Rattle.run_laws.specs.memory.Standing.{blank_block}
use Rattle.run_laws.specs.embedded.Making.{AreNewRights}
use Rattle.run_laws.specs.embedded.Marks.{IsTwin, LivesAgain, MayStart, anew}

or_true : (a : Bool) → (a || true) ≡ true
or_true true = refl
or_true false = refl

from_start : (o : ℕ) → 0 + o ≡ o
from_start o = omega arith

pub owners_serve : (b c : ℕ) (kind other : Kind) → AreNewRights owner_rights owner_rights b c kind other
owners_serve b c kind other = record {
  allowed = λ size align. record {
    opens = λ o len le e. refl;
    aligned = λ o len n pos within free is e. ap (λ (k : ℕ). meets (blank_block size align other) k n) (from_start o) ∙ e;
    comparable = λ o le e. or_true (0 + o == 0);
  };
  nulls = λ size align o e. or_true ((o.bits + 0) % 2 ^ 64 == 0);
}

-- ---- slots that live again

any_or_true : (a b : Bool) → (a || (b || true)) ≡ true
any_or_true a b = ap (λ (t : Bool). a || t) (or_true b) ∙ or_true a

started_owner : (x : MemoryBlock) → (started x).owned ≡ x.owned
started_owner x = on (is_killed x.life)
  where
    on : (t : Bool) → (if t then x else anew x).owned ≡ x.owned
    on true = refl
    on false = refl

unowned_compares : (k : ℕ) (x : MemoryBlock) (o : Offset) → x.owned ≡ None → may_compare owner_rights k x o ≡ true
unowned_compares k x o e = ap (λ (w : Option ℕ). not (is_live x.life) || ((o.bits == 0) || not (is_below o.bits w))) e ∙ any_or_true (not (is_live x.life)) (o.bits == 0)

module _ (homes : List Home) (m n : List MemoryBlock) (b : ℕ) (x : MemoryBlock) (twin : IsTwin n (home_of homes b) x) where
  shifted : (o : ℕ) → (home_of homes b).offset + o ≡ o
  shifted o = ap (λ (k : ℕ). k + o) twin.start ∙ from_start o

  lives : is_killed x.life ≡ false → LivesAgain owner_rights owner_rights homes n b x
  lives un = record {
    block = twin.block;
    there = twin.there;
    unkilled = twin.unkilled un;
    writable = twin.writable;
    allowed = record {
      opens = λ o len le e. ap (is_below ((home_of homes b).offset + o)) twin.owner;
      aligned = λ o len k pos within free is e. ap (λ (p : ℕ × ℕ). (p.0 % k == 0) && nat_le k p.1) (λ i. (shifted o i, twin.align i)) ∙ e;
      comparable = λ o le e. ap (λ (w : Option ℕ). ((home_of homes b).offset + o == 0) || not (is_below ((home_of homes b).offset + o) w)) twin.owner ∙ or_true ((home_of homes b).offset + o == 0);
    };
  }

  pub owners_start : slice_get m b ≡ Some x → MayStart owner_rights owner_rights homes m n b
  owners_start at = record {
    again = λ y is un.
        let same : x ≡ y = same_some x y (sym at ∙ is) in
        subst (λ (u : MemoryBlock). LivesAgain owner_rights owner_rights homes n b u) same (lives (ap (λ (u : MemoryBlock). is_killed u.life) same ∙ un));
    nulls = λ o e.
        ap (λ (u : Option MemoryBlock). may_compare_at owner_rights (home_of homes b).block u (moved o (home_of homes b).offset)) (changed_here n (home_of homes b).block started twin.block twin.there)
        ∙ unowned_compares (home_of homes b).block (started twin.block) (moved o (home_of homes b).offset) (started_owner twin.block ∙ twin.owner);
  }

pub twins_start : (homes : List Home) (m n : List MemoryBlock) (b : ℕ) (x : MemoryBlock) → slice_get m b ≡ Some x → IsTwin n (home_of homes b) x → MayStart owner_rights owner_rights homes m n b
twins_start homes m n b x at twin = owners_start homes m n b x twin at
