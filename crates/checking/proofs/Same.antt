-- Two jobs in bytes that keep the rules and say the same: the check of a plan answers them alike, also where one is the other rewritten.
use Prim.Native.Nat.{ℕ, ◌*◌, ◌<◌}
use mathlib.Core.List.{List}
use mathlib.Core.Path.{◌≡◌, sym, ◌∙◌, subst}
use native.Mathlib.Omega.{arith}
use Rattle.game.specs.Game.{Arena, Inside, Lawful}
use Rattle.game.specs.Allowed.{Allowed, lost, met, wins, hopes}
use Rattle.game.specs.declared.entry.Entry.{Entry}
use Rattle.game.proofs.Alike.{Alike, losing_alike, wins_alike, pending_alike, hopes_alike, sure_alike, hopeful_alike}
use Rattle.rules.specs.Job.{place, entry_number, arena}
use Rattle.rules.specs.Fault.{Fault}
use Rattle.rules.specs.Bytes.{said}
use Rattle.rules.specs.Keeps.{Keeps}
use Rattle.rules.specs.Plan.{entry, room}
use Rattle.rules.specs.Retold.{SameJob, retold}
use Rattle.rules.proofs.Kept.{kept}
use Rattle.rules.proofs.Arenas.{inside_iff, arena_lawful}
use Rattle.rules.proofs.Same.{same_alike}
use Rattle.rules.proofs.Retelling.{retold_same, retold_keeps}
use Rattle.checking.specs.Checking.{AllowedAt, Checking, refused, no_room, wrong, passed}

module _ (H G : Arena) (L : Lawful H) (M : Lawful G) (f : H.Place → G.Place) (s : Alike H G f) (x : H.Place) (i : Inside H x) where
  to : {e : Entry} → Allowed H x e → Allowed G (f x) e
  to (lost l) = lost ((losing_alike H G L M f s x i).0 l)
  to (met y) = met (sym (s.accepted x i) ∙ y)
  to (wins {a} {n} u w l) = wins (sym (s.accepted x i) ∙ u) ((wins_alike H G L M f s n x i).0 w) ((sure_alike H G L M f s x i n a).0 l)
  to (hopes {a} {n} h k l) =
      hopes ((pending_alike H G L M f s x i).0 h) ((hopes_alike H G L M f s n x i).0 k) ((hopeful_alike H G L M f s x i n a).0 l)

  from : {e : Entry} → Allowed G (f x) e → Allowed H x e
  from (lost l) = lost ((losing_alike H G L M f s x i).1 l)
  from (met y) = met (s.accepted x i ∙ y)
  from (wins {a} {n} u w l) = wins (s.accepted x i ∙ u) ((wins_alike H G L M f s n x i).1 w) ((sure_alike H G L M f s x i n a).1 l)
  from (hopes {a} {n} h k l) =
      hopes ((pending_alike H G L M f s x i).1 h) ((hopes_alike H G L M f s n x i).1 k) ((hopeful_alike H G L M f s x i n a).1 l)

module _ {b c : List ℕ} (k : Keeps b) (h : Keeps c) (w : SameJob (said b) (said c)) (p : List ℕ) where
  there : (t q : ℕ) → t < (said b).states → q < (said b).goals → AllowedAt b p t q → AllowedAt c p t q
  there t q i l y =
      subst (λ (n : ℕ). Allowed (arena (said c)) (place t q) (entry p (entry_number n (place t q)))) w.goals
      (to (arena (said b)) (arena (said c)) (arena_lawful b k) (arena_lawful c h) (λ z. z) (same_alike k h w) (place t q)
      ((inside_iff (said b) (place t q)).1 (i, l)) y)

  back : (t q : ℕ) → t < (said b).states → q < (said b).goals → AllowedAt c p t q → AllowedAt b p t q
  back t q i l y =
      from (arena (said b)) (arena (said c)) (arena_lawful b k) (arena_lawful c h) (λ z. z) (same_alike k h w) (place t q)
      ((inside_iff (said b) (place t q)).1 (i, l))
      (subst (λ (n : ℕ). Allowed (arena (said c)) (place t q) (entry p (entry_number n (place t q)))) (sym w.goals) y)

  room_same : room (said b) ≡ room (said c)
  room_same = λ i. 4 * (w.states i * w.goals i)

  pub same_checking : {f : Fault} {t q : ℕ} → Checking b p f t q → Checking c p f t q
  same_checking (refused n) = absurd (n ((kept b).1 k))
  same_checking (no_room e l) = no_room ((kept c).1 h) (rw room_same at l)
  same_checking (wrong {s} {q} e l i m n y) =
      wrong {s = s} {q = q} ((kept c).1 h) (rw room_same at l) (omega (arith, w.states)) (omega (arith, w.goals)) (λ z. n (back s q i m z))
      (λ u r j o d.
      let j' : u < (said b).states = omega (arith, w.states) in
      let o' : r < (said b).goals = omega (arith, w.goals) in
      there u r j' o' (y u r j' o' (subst (λ (g : ℕ). entry_number g (place u r) < entry_number g (place s q)) (sym w.goals) d)))
  same_checking (passed e l y) =
      passed ((kept c).1 h) (rw room_same at l)
      (λ u r j o.
      let j' : u < (said b).states = omega (arith, w.states) in
      let o' : r < (said b).goals = omega (arith, w.goals) in
      there u r j' o' (y u r j' o'))

-- the check answers a job rewritten in the tall form the same
pub retold_checked : {b : List ℕ} → Keeps b → (p : List ℕ) {f : Fault} {t q : ℕ} → Checking b p f t q → Checking (retold b) p f t q
retold_checked k p = same_checking k (retold_keeps k) (retold_same k) p
