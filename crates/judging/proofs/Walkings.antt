-- What judging answers at a byte and a moment, from what it answers of the parts; and one step of each walk.
use Prim.Native.Nat.{ℕ, ◌+◌, ◌≤◌, ◌<◌}
use mathlib.Core.Bool.{Bool, true, false, cond, not, ◌&&◌, ◌||◌, beq}
use mathlib.Core.List.{List}
use mathlib.Core.Logic.{◌⊎◌, inl, inr}
use mathlib.Core.Path.{◌≡◌, refl, sym, ◌∙◌, ap}
use native.Mathlib.Numerals.{add-one}
use native.Mathlib.Omega.{arith}
use borrow.Author.Tests.{lt-ltb, le-ltb}
use lib.Dec.{ltb}
use lib.ListN.{length, get_or, drop, length-drop}
use lib.Seq.{drop-drop, get_or-drop}
use Rattle.sets.specs.Sets.{bit}
use Rattle.sets.proofs.Bits.{below_or}
use Rattle.rules.specs.Formula.{Formula}
use Rattle.rules.specs.Sat.{after, walk, sat}
use Rattle.rules.proofs.Decided.{walk_step, walk_end}
use Rattle.judging.specs.Formulas.{nodes, byte_at, Stands}
use Rattle.judging.specs.Walking.{Ready, TwoReady, JudgedAt, BothAt, NextAt, UntilAt, EverAt, as_wanted, denied}
use Rattle.judging.specs.declared.walk.Part.{Part}
use Rattle.judging.specs.declared.read.Node.{Node}
use Rattle.judging.specs.declared.read.Node.TheVariants.{Atom, Not, And, Next, Until, WeakNext, Eventually, Always, Malformed}
use Rattle.judging.proofs.Forms.{node, first, second, proposition, parts, stands_node, known, stands_within, byte_in, stands_one, stands_two}
use Rattle.judging.proofs.Forms.{stands_atom, stands_end, sat_by, sat_root, depth_below, Root}

abbrev pub told : Bool → ℕ → Part
told x e = record { holds = x; end = e }

not_not : (x : Bool) → not (not x) ≡ x
not_not true = refl
not_not false = refl

-- ---- moments

walk_next : (a b : List ℕ → Bool) (t : List ℕ) (i : ℕ) → i < length t
    → walk a b (drop i t) ≡ (b (drop i t) || (a (drop i t) && walk a b (drop (i + 1) t)))
walk_next a b t i h = walk_step a b t i h ∙ rw (add-one i)

-- next and weak next, by whether there is a moment after this one
after_in : (t : List ℕ) (i : ℕ) → ltb 1 (length (drop i t)) ≡ ltb (i + 1) (length t)
after_in t i = go (below_or (i + 1) (length t))
  where
    go : (i + 1 < length t) ⊎ (length t ≤ i + 1) → ltb 1 (length (drop i t)) ≡ ltb (i + 1) (length t)
    go (inl h) = lt-ltb 1 (length (drop i t)) (omega (arith, length-drop i t)) ∙ sym (lt-ltb (i + 1) (length t) h)
    go (inr h) = le-ltb 1 (length (drop i t)) (omega (arith, length-drop i t)) ∙ sym (le-ltb (i + 1) (length t) h)

after_is : (a : List ℕ → Bool) (t : List ℕ) (i : ℕ) → cond (ltb (i + 1) (length t)) (a (drop (i + 1) t)) false ≡ after a (drop i t)
after_is a t i = rw (after_in t i, drop-drop 1 i t) (go (ltb (i + 1) (length t)))
  where
    go : (x : Bool) → cond x (a (drop (i + 1) t)) false ≡ (x && a (drop (i + 1) t))
    go true = refl
    go false = refl

weak_is : (a : List ℕ → Bool) (t : List ℕ) (i : ℕ)
    → cond (ltb (i + 1) (length t)) (a (drop (i + 1) t)) true ≡ not (after (λ s. not (a s)) (drop i t))
weak_is a t i = rw (after_in t i, drop-drop 1 i t) (go (ltb (i + 1) (length t)))
  where
    go : (x : Bool) → cond x (a (drop (i + 1) t)) true ≡ not (x && not (a (drop (i + 1) t)))
    go true = sym (not_not (a (drop (i + 1) t)))
    go false = refl

-- ---- the formula that stands at a byte

module _ (b : List ℕ) (at : ℕ) where
  root_is : (f : Formula) (k : Node) → Stands b at f → Root b at k → node f ≡ k
  root_is f k s e = sym (stands_node b at f s) ∙ e.is

  one_stands : (k : Node) → parts k ≡ 1 → Root b at k → (f : Formula) → Stands b at f
      → Stands b (at + 1) (first f) × (nodes f ≡ 1 + nodes (first f))
  one_stands k h e f s = stands_one b at f s (ap parts (root_is f k s e) ∙ h)

  two_stand : (k : Node) → parts k ≡ 2 → Root b at k → (f : Formula) → Stands b at f
      → Stands b (at + 1) (first f) × Stands b (at + 1 + nodes (first f)) (second f) × (nodes f ≡ 1 + nodes (first f) + nodes (second f))
  two_stand k h e f s = stands_two b at f s (ap parts (root_is f k s e) ∙ h)

  sat_of : (k : Node) → Root b at k → (f : Formula) → Stands b at f → (t : List ℕ)
      → sat_by k (proposition f) (sat (first f)) (sat (second f)) t ≡ sat f t
  sat_of k e f s t =
      sym (sat_root f t ∙ ap (λ (x : Node). sat_by x (proposition f) (sat (first f)) (sat (second f)) t) (root_is f k s e))

  module _ (t : List ℕ) (i : ℕ) where
    -- ---- no part

    pub judged_atom : Root b at Atom → at < length b
        → JudgedAt b at t i (told (bit (get_or t i 0) (get_or b at 0)) (at + 1))
    judged_atom e h = record { value = value; ends = ends }
      where
        no_part : (f : Formula) → Stands b at f → (byte_at b at ≡ proposition f) × (nodes f ≡ 1)
        no_part f s = stands_atom b at f s (ap parts (root_is f Atom s e))

        value : (f : Formula) → Stands b at f → bit (get_or t i 0) (get_or b at 0) ≡ sat f (drop i t)
        value f s =
            let z : i + 0 ≡ i = omega arith in
            rw (← byte_in b at h, (no_part f s).0, ← sat_of Atom e f s (drop i t), get_or-drop i t 0 0, z)

        ends : (f : Formula) → Stands b at f → at + 1 ≡ at + nodes f
        ends f s = omega (arith, (no_part f s).1)

    -- what is said at a malformed byte does not matter
    pub judged_malformed : Root b at Malformed → (r : Part) → JudgedAt b at t i r
    judged_malformed e r =
        record {
          value = λ f s. absurd (known f (sym e.is ∙ stands_node b at f s));
          ends = λ f s. absurd (known f (sym e.is ∙ stands_node b at f s));
        }

    -- ---- one part

    one_ends : (k : Node) → parts k ≡ 1 → Root b at k → (x : ℕ)
        → ((f : Formula) → Stands b (at + 1) f → x ≡ at + 1 + nodes f) → (f : Formula) → Stands b at f → x ≡ at + nodes f
    one_ends k h e x r f s = let (u, n) = one_stands k h e f s in omega (arith, r (first f) u, n)

    pub judged_not : Root b at Not → (p : Part) → JudgedAt b (at + 1) t i p → JudgedAt b at t i (denied p)
    judged_not e p r =
        record {
          value = λ f s. ap not (r.value (first f) (one_stands Not refl e f s).0) ∙ sat_of Not e f s (drop i t);
          ends = one_ends Not refl e p.end r.ends;
        }

    pub judged_next : Root b at Next → (p : Part) → NextAt b (at + 1) false t i p → JudgedAt b at t i p
    judged_next e p r =
        record {
          value = λ f s. r.value (first f) (one_stands Next refl e f s).0 ∙ after_is (sat (first f)) t i ∙ sat_of Next e f s (drop i t);
          ends = one_ends Next refl e p.end r.ends;
        }

    pub judged_weak : Root b at WeakNext → (p : Part) → NextAt b (at + 1) true t i p → JudgedAt b at t i p
    judged_weak e p r =
        record {
          value = λ f s. r.value (first f) (one_stands WeakNext refl e f s).0 ∙ weak_is (sat (first f)) t i
              ∙ sat_of WeakNext e f s (drop i t);
          ends = one_ends WeakNext refl e p.end r.ends;
        }

    pub judged_ever : Root b at Eventually → (p : Part) → EverAt b (at + 1) true t i p → JudgedAt b at t i p
    judged_ever e p r =
        record {
          value = λ f s. r.value (first f) (one_stands Eventually refl e f s).0 ∙ sat_of Eventually e f s (drop i t);
          ends = one_ends Eventually refl e p.end r.ends;
        }

    pub judged_always : Root b at Always → (p : Part) → EverAt b (at + 1) false t i p
        → JudgedAt b at t i (denied p)
    judged_always e p r =
        record {
          value = λ f s. ap not (r.value (first f) (one_stands Always refl e f s).0) ∙ sat_of Always e f s (drop i t);
          ends = one_ends Always refl e p.end r.ends;
        }

    -- ---- two parts

    pub judged_until : Root b at Until → (p : Part) → UntilAt b (at + 1) t i p → JudgedAt b at t i p
    judged_until e p r = record { value = value; ends = ends }
      where
        value : (f : Formula) → Stands b at f → p.holds ≡ sat f (drop i t)
        value f s = let (u, v, n) = two_stand Until refl e f s in r.value (first f) (second f) u v ∙ sat_of Until e f s (drop i t)

        ends : (f : Formula) → Stands b at f → p.end ≡ at + nodes f
        ends f s = let (u, v, n) = two_stand Until refl e f s in omega (arith, r.ends (first f) (second f) u v, n)

    pub judged_and : Root b at And → (p : Part) → BothAt b (at + 1) t i p → JudgedAt b at t i p
    judged_and e p r = record { value = value; ends = ends }
      where
        value : (f : Formula) → Stands b at f → p.holds ≡ sat f (drop i t)
        value f s = let (u, v, n) = two_stand And refl e f s in r.value (first f) (second f) u v ∙ sat_of And e f s (drop i t)

        ends : (f : Formula) → Stands b at f → p.end ≡ at + nodes f
        ends f s = let (u, v, n) = two_stand And refl e f s in omega (arith, r.ends (first f) (second f) u v, n)

-- ---- two parts at a moment, and one step of a walk

module _ (b : List ℕ) (at : ℕ) (t : List ℕ) (i : ℕ) (p q : Part) (x : JudgedAt b at t i p) (y : JudgedAt b p.end t i q) where
  second_at : (f g : Formula) → Stands b at f → Stands b (at + nodes f) g → Stands b p.end g
  second_at f g s r = rw (x.ends f s) r

  two_end : (f g : Formula) → Stands b at f → Stands b (at + nodes f) g → q.end ≡ at + nodes f + nodes g
  two_end f g s r = omega (arith, x.ends f s, y.ends g (second_at f g s r))

  pub both_yes : p.holds ≡ true → BothAt b at t i q
  both_yes h =
      record {
        value = λ f g s r. y.value g (second_at f g s r) ∙ sym (ap (λ (z : Bool). z && sat g (drop i t)) (sym (x.value f s) ∙ h));
        ends = two_end;
      }

  pub both_no : p.holds ≡ false → BothAt b at t i (told false q.end)
  both_no h =
      record {
        value = λ f g s r. sym (ap (λ (z : Bool). z && sat g (drop i t)) (sym (x.value f s) ∙ h));
        ends = two_end;
      }

  module _ (h : i < length t) where
    until_now : (u v : Bool) → p.holds ≡ u → q.holds ≡ v → (f g : Formula) → Stands b at f → Stands b (at + nodes f) g
        → (v || (u && walk (sat f) (sat g) (drop (i + 1) t))) ≡ walk (sat f) (sat g) (drop i t)
    until_now u v j k f g s r =
        sym (walk_next (sat f) (sat g) t i h
        ∙ ap (λ (z : Bool). z || (sat f (drop i t) && walk (sat f) (sat g) (drop (i + 1) t))) (sym (y.value g (second_at f g s r)) ∙ k)
        ∙ ap (λ (z : Bool). v || (z && walk (sat f) (sat g) (drop (i + 1) t))) (sym (x.value f s) ∙ j))

    -- the second part holds; the first does not; there is no later moment; the walk goes on
    pub until_found : q.holds ≡ true → UntilAt b at t i q
    until_found k = record { value = λ f g s r. k ∙ until_now p.holds true refl k f g s r; ends = two_end }

    pub until_broken : q.holds ≡ false → p.holds ≡ false → UntilAt b at t i q
    until_broken k j = record { value = λ f g s r. k ∙ until_now false false j k f g s r; ends = two_end }

    pub until_last : q.holds ≡ false → p.holds ≡ true → length t ≤ i + 1 → UntilAt b at t i q
    until_last k j l =
        record {
          value = λ f g s r. k ∙ sym (walk_end (sat f) (sat g) t (i + 1) l) ∙ until_now true false j k f g s r;
          ends = two_end;
        }

    pub until_later : q.holds ≡ false → p.holds ≡ true → (w : Part) → UntilAt b at t (i + 1) w → UntilAt b at t i w
    until_later k j w z =
        record { value = λ f g s r. z.value f g s r ∙ until_now true false j k f g s r; ends = z.ends }

module _ (b : List ℕ) (at : ℕ) (t : List ℕ) (i : ℕ) where
  -- the moment after this one, and the last
  pub next_later : (last : Bool) → i + 1 < length t → (p : Part) → JudgedAt b at t (i + 1) p → NextAt b at last t i p
  next_later last h p x =
      record {
        value = λ f s. x.value f s ∙ sym (ap (λ (z : Bool). cond z (sat f (drop (i + 1) t)) last) (lt-ltb (i + 1) (length t) h));
        ends = x.ends;
      }

  pub next_last : (last : Bool) → length t ≤ i + 1 → (p : Part) → JudgedAt b at t i p → NextAt b at last t i (told last p.end)
  next_last last h p x =
      record {
        value = λ f s. sym (ap (λ (z : Bool). cond z (sat f (drop (i + 1) t)) last) (le-ltb (i + 1) (length t) h));
        ends = x.ends;
      }

  module _ (h : i < length t) (wanted : Bool) (p : Part) (x : JudgedAt b at t i p) where
    as_is : (u w : Bool) → as_wanted w u ≡ beq u w
    as_is true true = refl
    as_is true false = refl
    as_is false true = refl
    as_is false false = refl

    ever_now : (v : Bool) → as_wanted wanted p.holds ≡ v → (f : Formula) → Stands b at f
        → (v || walk (λ s. true) (λ s. as_wanted wanted (sat f s)) (drop (i + 1) t)) ≡ walk (λ s. true) (λ s. as_wanted wanted (sat f s)) (drop i t)
    ever_now v k f s =
        sym (walk_next (λ z. true) (λ z. as_wanted wanted (sat f z)) t i h
        ∙ ap (λ (z : Bool). z || walk (λ s. true) (λ s. as_wanted wanted (sat f s)) (drop (i + 1) t))
        (ap (as_wanted wanted) (sym (x.value f s)) ∙ k))

    pub ever_found : beq p.holds wanted ≡ true → EverAt b at wanted t i (told true p.end)
    ever_found k = record { value = λ f s. ever_now true (as_is p.holds wanted ∙ k) f s; ends = x.ends }

    pub ever_last : beq p.holds wanted ≡ false → length t ≤ i + 1 → EverAt b at wanted t i (told false p.end)
    ever_last k l =
        record {
          value = λ f s. sym (walk_end (λ z. true) (λ z. as_wanted wanted (sat f z)) t (i + 1) l)
              ∙ ever_now false (as_is p.holds wanted ∙ k) f s;
          ends = x.ends;
        }

    pub ever_later : beq p.holds wanted ≡ false → (w : Part) → EverAt b at wanted t (i + 1) w → EverAt b at wanted t i w
    ever_later k w z =
        record { value = λ f s. z.value f s ∙ ever_now false (as_is p.holds wanted ∙ k) f s; ends = z.ends }

-- ---- the parts are ready to be judged

module _ (b : List ℕ) (at : ℕ) (t : List ℕ) (i : ℕ) (r : Ready b at t i) where
  pub ready_within : at < length b
  ready_within = stands_within b at r.formula r.stands

  -- a part, at this moment or another
  pub ready_part : (k : Node) → parts k ≡ 1 → Root b at k → (j : ℕ) → j < length t → Ready b (at + 1) t j
  ready_part k h e j l =
      record { formula = first r.formula; stands = (one_stands b at k h e r.formula r.stands).0; moment = l; few = r.few }

  pub ready_two : (k : Node) → parts k ≡ 2 → Root b at k → TwoReady b (at + 1) t i
  ready_two k h e =
      let (u, v, n) = two_stand b at k h e r.formula r.stands in
      record { first = first r.formula; second = second r.formula; stands = u; stands_second = v; moment = r.moment; few = r.few }

  pub ready_later : i + 1 < length t → Ready b at t (i + 1)
  ready_later l = record { formula = r.formula; stands = r.stands; moment = l; few = r.few }

-- what is judged ends past its start, inside the bytes
pub judged_goes : (b : List ℕ) (at : ℕ) (t : List ℕ) (i : ℕ) → Ready b at t i → (p : Part) → JudgedAt b at t i p
    → (at < p.end) × (p.end ≤ length b)
judged_goes b at t i r p x = (
  omega (arith, x.ends r.formula r.stands, depth_below r.formula),
  omega (arith, x.ends r.formula r.stands, stands_end b at r.formula r.stands),
)

module _ (b : List ℕ) (at : ℕ) (t : List ℕ) (i : ℕ) (r : TwoReady b at t i) where
  pub two_first : Ready b at t i
  two_first = record { formula = r.first; stands = r.stands; moment = r.moment; few = r.few }

  pub two_second : (p : Part) → JudgedAt b at t i p → Ready b p.end t i
  two_second p x = record { formula = r.second; stands = rw (x.ends r.first r.stands) r.stands_second; moment = r.moment; few = r.few }

  pub two_later : i + 1 < length t → TwoReady b at t (i + 1)
  two_later l =
      record { first = r.first; second = r.second; stands = r.stands; stands_second = r.stands_second; moment = l; few = r.few }
