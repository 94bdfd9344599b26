-- Congruence modulo m: sums and products keep it, since a number and its remainder differ by a multiple of m; and an addend
-- on both sides can be taken away, since m of it are a multiple of m.
-- Assumes nothing.
use Rattle.std.proofs.Common.{◌≡◌, ℕ, zero, suc, ◌+◌, ◌*◌, ◌/◌, ◌%◌, sym, refl, ◌∙◌, mul_assoc, mul_comm, add-mul, mul-suc, arith}
use native.Mathlib.Nat.{add-mod, mod-mod, mod-add-div, add-mul-mod_self_left, add-mul-mod_self_right, mod-zero, add_right_cancel}

pub record Congruent (m a b : ℕ) : Type 0 where
  pub same : a % m ≡ b % m

pub congruent_refl : {m a : ℕ} → Congruent m a a
congruent_refl = record { same = refl }

pub congruent_sym : {m a b : ℕ} → Congruent m a b → Congruent m b a
congruent_sym e = record { same = sym e.same }

pub congruent_trans : {m a b c : ℕ} → Congruent m a b → Congruent m b c → Congruent m a c
congruent_trans e f = record { same = e.same ∙ f.same }

-- A remainder is congruent to its number.
pub congruent_mod : {m a r : ℕ} → r ≡ a % m → Congruent m r a
congruent_mod {m} {a} e = record { same = rw e (mod-mod a m) }

pub congruent_add : {m a b c d : ℕ} → Congruent m a b → Congruent m c d → Congruent m (a + c) (b + d)
congruent_add {m} {a} {b} {c} {d} e f = record { same = add-mod a c m ∙ rw (e.same, f.same) (sym (add-mod b d m)) }

mod_factor : (m a c : ℕ) → a * c % m ≡ (a % m) * c % m
mod_factor m a c =
    let split : a * c ≡ (a % m) * c + m * (a / m * c) = rw (← mul_assoc m (a / m) c, ← add-mul (a % m) (m * (a / m)) c, mod-add-div a m) in
    rw (split, add-mul-mod_self_left)

congruent_scale : {m a b : ℕ} (c : ℕ) → Congruent m a b → Congruent m (a * c) (b * c)
congruent_scale {m} {a} {b} c e = record { same = mod_factor m a c ∙ rw e.same (sym (mod_factor m b c)) }

pub congruent_mul : {m a b c d : ℕ} → Congruent m a b → Congruent m c d → Congruent m (a * c) (b * d)
congruent_mul {m} {a} {b} {c} {d} e f = congruent_trans (congruent_scale c e) (rw (mul_comm b c, mul_comm b d) (congruent_scale b f))

-- c added m times in all.
full_circle : (k a c : ℕ) → Congruent (suc k) (a + c + c * k) a
full_circle k a c =
    let all : a + c + c * k ≡ a + c * suc k = omega (arith, mul-suc c k) in
    record { same = rw (all, add-mul-mod_self_right) }

pub congruent_cancel : (m : ℕ) {a b : ℕ} (c : ℕ) → Congruent m (a + c) (b + c) → Congruent m a b
congruent_cancel zero {a} {b} c e = record { same = rw (add_right_cancel c (simp mod-zero at e.same)) }
congruent_cancel (suc k) {a} {b} c e =
    congruent_trans
    (congruent_sym (full_circle k a c))
    (congruent_trans (congruent_add e congruent_refl) (full_circle k b c))
