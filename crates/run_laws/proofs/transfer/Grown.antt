-- Blocks that are new in the source, and in the target too.
use Rattle.std.proofs.Common.{◌≡◌, ◌≢◌, ℕ, zero, suc, ◌<◌, Bool, true, false, List, [], ◌∷◌, ◌++◌, length, Some, refl, sym, ap, ◌∙◌, subst, arith, if◌then◌else◌, length-append}
use Rattle.std.specs.Prelude.{slice_get}
use Rattle.run_memory.specs.Memory.{Rights, end, ended, fresh, is_live, start, started, with_block}
use Rattle.run_memory.specs.declared.block.Kind.{Kind}
use Rattle.run_memory.specs.declared.block.MemoryBlock.{MemoryBlock}
use Rattle.run_laws.proofs.memory.Homes.{append_extends}
use Rattle.run_laws.proofs.memory.Written.{same_some}
use Rattle.run_laws.specs.memory.Pointers.{Home, home_of}
use Rattle.run_laws.specs.memory.Standing.{Stands}
use Rattle.run_laws.specs.embedded.Making.{whole_home}
use Rattle.run_laws.proofs.transfer.Places.{blank_room, grown, seated}
use Rattle.run_laws.specs.transfer.Places.{AreBothNew, AreStanding, HasRoom, IsApartFrom, IsNewIn, MayBeSeen}

get_last : {A : Type 0} (xs : List A) (x : A) → slice_get (xs ++ x ∷ []) (length xs) ≡ Some x
get_last [] x = refl
get_last (y ∷ xs) x = get_last xs x

get_other : {A : Type 0} (xs : List A) (x : A) (k : ℕ) → k ≢ length xs → slice_get (xs ++ x ∷ []) k ≡ slice_get xs k
get_other [] x zero ne = absurd (ne refl)
get_other [] x (suc k) ne = refl
get_other (y ∷ xs) x zero ne = refl
get_other (y ∷ xs) x (suc k) ne = get_other xs x k (λ e. ne (ap suc e))

get_within : {A : Type 0} (xs : List A) (k : ℕ) (x : A) → slice_get xs k ≡ Some x → k < length xs
get_within [] k x e = absurd (cc)
get_within (y ∷ xs) zero x e = omega arith
get_within (y ∷ xs) (suc k) x e = let h = get_within xs k x e in omega arith

home_last : (homes : List Home) (h : Home) → home_of (homes ++ h ∷ []) (length homes) ≡ h
home_last [] h = refl
home_last (g ∷ homes) h = home_last homes h

home_other : (homes : List Home) (h : Home) (d : ℕ) → d ≢ length homes → home_of (homes ++ h ∷ []) d ≡ home_of homes d
home_other [] h zero ne = absurd (ne refl)
home_other [] h (suc d) ne = refl
home_other (g ∷ homes) h zero ne = refl
home_other (g ∷ homes) h (suc d) ne = home_other homes h d (λ e. ne (ap suc e))

module _ (rights target : Rights) (homes : List Home) (m : List MemoryBlock) where
  pub new_stands : (n : List MemoryBlock) (q : Home) (x : MemoryBlock) → IsNewIn rights target homes m n q x
      → AreStanding rights target homes m n → AreStanding rights target (homes ++ q ∷ []) (m ++ x ∷ []) n
  new_stands n q x new st = seated rights target homes (homes ++ q ∷ []) m (m ++ x ∷ []) n (length m) (record {
    extends = append_extends homes (q ∷ []);
    long = let e = length-append homes (q ∷ []) in omega arith;
    others = λ d ne. home_other homes q d (λ e. ne (e ∙ new.known));
    same = λ d ne. get_other m x d ne;
    stands = λ z at live. let is = last z at in subst (Stands rights target (homes ++ q ∷ []) n (length m)) is
        (new.stands (ap (λ (u : MemoryBlock). is_live u.life) is ∙ live));
    apart = λ z at live.
        let is = last z at in
        subst (λ (h : Home). IsApartFrom rights homes m h (length m) z) (sym own) (subst (IsApartFrom rights homes m q
        (length m)) is (new.apart (ap (λ (u : MemoryBlock). is_live u.life) is ∙ live)));
    seen = λ s.
        subst (λ (h : Home). MayBeSeen rights target n h (length m) (slice_get (m ++ x ∷ []) (length m))) (sym own)
        (subst (MayBeSeen rights target n q (length m)) (sym (get_last m x)) (new.seen (ap (λ (h : Home). h.is_seen)
        (sym own) ∙ s)));
  }) st
    where
      last : (z : MemoryBlock) → slice_get (m ++ x ∷ []) (length m) ≡ Some z → x ≡ z
      last z at = same_some x z (sym (get_last m x) ∙ at)

      own : home_of (homes ++ q ∷ []) (length m) ≡ q
      own = ap (home_of (homes ++ q ∷ [])) (sym new.known) ∙ home_last homes q

  pub made_together : (n : List MemoryBlock) (x y : MemoryBlock) → AreBothNew rights target homes m n x y
      → AreStanding rights target homes m n
      → AreStanding rights target (homes ++ whole_home (length n) ∷ []) (m ++ x ∷ []) (n ++ y ∷ [])
  made_together n x y new st = new_stands (n ++ y ∷ []) (whole_home (length n)) x (record {
    known = new.known;
    stands = λ live.
        blank_room rights target (homes ++ whole_home (length n) ∷ []) (n ++ y ∷ []) (length m) x
        (let e = length-append homes (whole_home (length n) ∷ []) in let k = new.known in omega arith)
        (new.blank live)
        (subst (λ (h : Home). HasRoom rights target (n ++ y ∷ []) h (length m) x)
        (sym (ap (home_of (homes ++ whole_home (length n) ∷ [])) (sym new.known) ∙ home_last homes
        (whole_home (length n)))) (new.room live));
    apart = λ live c z ne at living e. absurd (away c z at living e);
    seen = λ s. new.seen;
  }) (grown rights target homes m n (y ∷ []) new.there st)
    where
      away : (c : ℕ) (z : MemoryBlock) → slice_get m c ≡ Some z → is_live z.life ≡ true
          → (home_of homes c).block ≡ length n → ⊥
      away c z at live e =
          let s = st.memory.each c z at live in
          let lt = get_within n (home_of homes c).block s.block s.there in
          omega arith

-- ---- allocas of slots that live from then on

changed_last : (n : List MemoryBlock) (x : MemoryBlock) (f : MemoryBlock → MemoryBlock)
    → with_block (n ++ x ∷ []) (length n) f ≡ n ++ f x ∷ []
changed_last [] x f = refl
changed_last (y ∷ n) x f = ap (λ k. y ∷ k) (changed_last n x f)

-- whether it has markers or not, a new block that is started at once is a live one of undefined bytes
pub made_live : (n : List MemoryBlock) (size align : ℕ) (kind : Kind) (t : Bool)
    → start (if t then end (fresh n size align kind) (length n) else fresh n size align kind)
    (length n) ≡ fresh n size align kind
made_live n size align kind true = ap (λ k. with_block k (length n) started)
    (changed_last n _ ended) ∙ changed_last n _ started
made_live n size align kind false = changed_last n _ started
