-- A law for one entry, or for two, carries over to the whole list, and so does a change of entries.
-- Assumes nothing.
use mathlib.Core.List.{List, [], ◌∷◌, map}
use Rattle.tiling.specs.Each.{Each, none, also, Pairs, no_pair, before}

pub each_also : {A : Type 0} {Q R : A → Type 0} → ((x : A) → Q x → R x) → {xs : List A} → Each Q xs → Each R xs
each_also h none = none
each_also h (also {x = x} q r) = also (h x q) (each_also h r)

pub each_both : {A : Type 0} {P Q R : A → Type 0} → ((x : A) → P x → Q x → R x) → {xs : List A} → Each P xs → Each Q xs → Each R xs
each_both h none none = none
each_both h (also {x = x} p ps) (also q qs) = also (h x p q) (each_both h ps qs)

pub each_map : {A B : Type 0} {Q : A → Type 0} {R : B → Type 0} (f : A → B) → ((x : A) → Q x → R (f x)) → {xs : List A} → Each Q xs → Each R (map f xs)
each_map f h none = none
each_map f h (also {x = x} q r) = also (h x q) (each_map f h r)

pub each_unmap : {A B : Type 0} {Q : A → Type 0} {R : B → Type 0} (f : A → B) → ((x : A) → R (f x) → Q x) → (xs : List A) → Each R (map f xs) → Each Q xs
each_unmap f h [] none = none
each_unmap f h (x ∷ xs) (also r rs) = also (h x r) (each_unmap f h xs rs)

pub pairs_map : {A B : Type 0} {Q : A → A → Type 0} {R : B → B → Type 0} (f : A → B) → ((x y : A) → Q x y → R (f x) (f y)) → {xs : List A} → Pairs Q xs → Pairs R (map f xs)
pairs_map f h no_pair = no_pair
pairs_map f h (before {x = x} q r) = before (each_map f (h x) q) (pairs_map f h r)
