-- Names and what is listed with them.
use Rattle.std.proofs.Common.{[], ◌≡◌, ◌<◌, ◌+◌, ℕ, length, drop, get_or, Bor, List, ◌∷◌, ◌++◌, Option, None, Some, IfSome, IfNone, option_copied, is_some, true, false, cond, bytes_eq, map, reverse, refl, sym, ap, ◌∙◌}
use Rattle.std.proofs.lemmas.Bool.{true≢false, false≢true}
use Rattle.std.proofs.lemmas.List.{reverse-append, at_drop_more, length_push}
use Rattle.std.specs.Map.{lookup}
use Rattle.std.specs.Cmp.Lexicographic.{nat_list_eq_equiv}
use Rattle.indexmap.specs.IndexMap.{insert_entry}
use Rattle.nz_script.specs.commands.Elaboration.{listed}
use Rattle.nz_elaborate.specs.declared.typed.Typed.{Typed}
use Rattle.nz_elaborate.specs.Names.{bound_in, bound_by, first_of, frame_entry}

-- the map finds what is listed
pub lookup-listed : {A : Type 0} (ps : List (List ℕ × A)) (name : List ℕ) → lookup (bytes_eq name) ps ≡ listed ps name
lookup-listed [] name = refl
lookup-listed (p ∷ ps) name = ap (cond (bytes_eq name p.0) (Some p.1)) (lookup-listed ps name)

-- a name that isn't there goes last
pub insert_entry-listed : {A : Type 0} (ps : List (List ℕ × A)) (name : List ℕ) (x : A) → listed ps name ≡ None
    → insert_entry bytes_eq ps name x ≡ ps ++ (name, x) ∷ []
insert_entry-listed [] name x h = refl
insert_entry-listed (p ∷ ps) name x h =
    (elim (bytes_eq name p.0) as (λ b. cond b (Some p.1) (listed ps name) ≡ None → cond b ((p.0, x) ∷ ps) (p ∷ insert_entry bytes_eq ps name x) ≡ p ∷ (ps ++ (name, x) ∷ [])) [
      | true ↦ λ e. cc
      | false ↦ λ e. ap (λ l. p ∷ l) (insert_entry-listed ps name x e)
    ]) h

-- two equal names have the same listed
same_listed : {A : Type 0} (ps : List (List ℕ × A)) (a b : List ℕ) → bytes_eq a b ≡ true → listed ps a ≡ listed ps b
same_listed [] a b e = refl
same_listed (p ∷ ps) a b e =
    ap (λ c. cond c (Some p.1) (listed ps a)) (nat_list_eq_equiv.congr a b p.0 e) ∙ ap (cond (bytes_eq b p.0) (Some p.1)) (same_listed ps a b e)

-- ---- Frames, whose names are borrowed

pub lookup-frame : (ps : List (Bor (List ℕ) × Option Typed)) (name : List ℕ) → lookup (λ (k : Bor (List ℕ)). bytes_eq name k.now) ps ≡ listed (map frame_entry ps) name
lookup-frame [] name = refl
lookup-frame (p ∷ ps) name = ap (cond (bytes_eq name p.0.now) (Some p.1)) (lookup-frame ps name)

-- a name that isn't there goes last
pub insert_entry-frame : (ps : List (Bor (List ℕ) × Option Typed)) (name : Bor (List ℕ)) (x : Option Typed) → listed (map frame_entry ps) name.now ≡ None
    → map frame_entry (insert_entry (λ (a b : Bor (List ℕ)). bytes_eq a.now b.now) ps name x) ≡ map frame_entry ps ++ (name.now, x) ∷ []
insert_entry-frame [] name x h = refl
insert_entry-frame (p ∷ ps) name x h =
    (elim (bytes_eq name.now p.0.now) as (λ b. cond b (Some p.1) (listed (map frame_entry ps) name.now) ≡ None
    → map frame_entry (cond b ((p.0, x) ∷ ps) (p ∷ insert_entry (λ (a b : Bor (List ℕ)). bytes_eq a.now b.now) ps name x)) ≡ frame_entry p ∷ (map frame_entry ps ++ (name.now, x) ∷ [])) [
      | true ↦ λ e. cc
      | false ↦ λ e. ap (λ l. frame_entry p ∷ l) (insert_entry-frame ps name x e)
    ]) h

-- ---- What is bound already, and what isn't

first_none : (o : Option (Option Typed)) → first_of o None ≡ o
first_none None = refl
first_none (Some x) = refl

-- what is bound already stays
pub bound_kept : (ps : List (List ℕ × Option Typed)) (name : List ℕ) (x y : Option Typed) → listed ps name ≡ Some y → (other : List ℕ)
    → bound_in ps other ≡ first_of (bound_in ps other) (bound_in ((name, x) ∷ []) other)
bound_kept ps name x y h other =
    (elim (bytes_eq other name) as (λ b. (b ≡ true → listed ps other ≡ listed ps name) → listed ps other ≡ first_of (listed ps other) (cond b (Some x) None)) [
      | true ↦ λ same. (let found : listed ps other ≡ Some y = same refl ∙ h in rw found refl)
      | false ↦ λ same. sym (first_none (listed ps other))
    ]) (same_listed ps other name)

-- a name that isn't bound is bound last
pub bound_added : (ps : List (List ℕ × Option Typed)) (name : List ℕ) (x : Option Typed) (other : List ℕ)
    → bound_in (ps ++ (name, x) ∷ []) other ≡ first_of (bound_in ps other) (bound_in ((name, x) ∷ []) other)
bound_added [] name x other = refl
bound_added (p ∷ ps) name x other =
    elim (bytes_eq other p.0) as (λ b. cond b (Some p.1) (listed (ps ++ (name, x) ∷ []) other) ≡ first_of (cond b (Some p.1) (listed ps other)) (listed ((name, x) ∷ []) other)) [
      | true ↦ refl
      | false ↦ bound_added ps name x other
    ]

-- ---- Frames

-- the term of a name by the first of the frames that has it
abbrev pub innermost : List ℕ → List (List (List ℕ × Option Typed)) → Option (Option Typed)
innermost name [] = None
innermost name (frame ∷ frames) = first_of (bound_in frame name) (innermost name frames)

first_grouped : (a b c : Option (Option Typed)) → first_of (first_of a b) c ≡ first_of a (first_of b c)
first_grouped None b c = refl
first_grouped (Some x) b c = refl

innermost-push : (name : List ℕ) (frames : List (List (List ℕ × Option Typed))) (frame : List (List ℕ × Option Typed))
    → innermost name (frames ++ frame ∷ []) ≡ first_of (innermost name frames) (bound_in frame name)
innermost-push name [] frame = first_none (bound_in frame name)
innermost-push name (f ∷ fs) frame =
    ap (first_of (bound_in f name)) (innermost-push name fs frame) ∙ sym (first_grouped (bound_in f name) (innermost name fs) (bound_in frame name))

-- the frames from the last one on
pub bound-reverse : (frames : List (List (List ℕ × Option Typed))) (name : List ℕ) → bound_by frames name ≡ innermost name (reverse frames)
bound-reverse [] name = refl
bound-reverse (frame ∷ frames) name =
    ap (λ o. first_of o (bound_in frame name)) (bound-reverse frames name) ∙ sym (innermost-push name (reverse frames) frame)
    ∙ ap (innermost name) (sym (reverse-append (frame ∷ []) frames))

-- where a frame has the name, and where it hasn't
pub innermost_found : (name : List ℕ) (all : List (List (List ℕ × Option Typed))) (yielded : List (Bor (List (List ℕ × Option Typed)))) (frame : Bor (List (List ℕ × Option Typed))) (x : Option Typed)
    → length yielded < length all → frame.now ≡ get_or all (length yielded) frame.now → bound_in frame.now name ≡ Some x
    → (whole : Option (Option Typed)) → whole ≡ innermost name (drop (length yielded) all) → Some x ≡ whole
innermost_found name all yielded frame x below is here whole before =
    sym (before ∙ at_drop_more (innermost name) all (length yielded) frame.now below
    ∙ ap (λ f. first_of (bound_in f name) (innermost name (drop (length yielded + 1) all))) (sym is)
    ∙ ap (λ o. first_of o (innermost name (drop (length yielded + 1) all))) here)

pub innermost_next : (name : List ℕ) (all : List (List (List ℕ × Option Typed))) (yielded : List (Bor (List (List ℕ × Option Typed)))) (frame : Bor (List (List ℕ × Option Typed)))
    → length yielded < length all → frame.now ≡ get_or all (length yielded) frame.now → bound_in frame.now name ≡ None
    → (whole : Option (Option Typed)) → whole ≡ innermost name (drop (length yielded) all) → whole ≡ innermost name (drop (length (yielded ++ frame ∷ [])) all)
innermost_next name all yielded frame below is here whole before =
    before ∙ at_drop_more (innermost name) all (length yielded) frame.now below
    ∙ ap (λ f. first_of (bound_in f name) (innermost name (drop (length yielded + 1) all))) (sym is)
    ∙ ap (λ o. first_of o (innermost name (drop (length yielded + 1) all))) here
    ∙ ap (λ n. innermost name (drop n all)) (sym (length_push yielded frame))

-- ---- What a look-up answers

pub found_listed : {A : Type 0} (o : Option (Bor A)) (ps : List (List ℕ × A)) (name : List ℕ) → option_copied o ≡ listed ps name → IfSome o (λ n. listed ps name ≡ Some n.now)
found_listed None ps name e = tt
found_listed (Some n) ps name e = sym e

pub none_listed : {A : Type 0} (o : Option (Bor A)) (ps : List (List ℕ × A)) (name : List ℕ) → option_copied o ≡ listed ps name → IfNone o (listed ps name ≡ None)
none_listed None ps name e = sym e
none_listed (Some n) ps name e = tt

-- where the look-up finds a name, it is bound already
pub bound_there : (o : Option (Bor (Option Typed))) (ps : List (List ℕ × Option Typed)) (name : List ℕ) (x : Option Typed) → option_copied o ≡ listed ps name → is_some o ≡ true
    → (other : List ℕ) → bound_in ps other ≡ first_of (bound_in ps other) (bound_in ((name, x) ∷ []) other)
bound_there None ps name x e there = absurd (false≢true there)
bound_there (Some y) ps name x e there = bound_kept ps name x y.now (sym e)

pub not_there : {A : Type 0} (o : Option (Bor A)) (ps : List (List ℕ × A)) (name : List ℕ) → option_copied o ≡ listed ps name → is_some o ≡ false → listed ps name ≡ None
not_there None ps name e there = sym e
not_there (Some y) ps name e there = absurd (true≢false there)
