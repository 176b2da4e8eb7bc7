-- What is kept of an open command, and the reading whose token ends.
use Rattle.std.proofs.Common.{◌≡◌, ℕ, ◌+◌, ◌-◌, ◌<◌, ◌^◌, ◌||◌, ◌&&◌, Bool, true, false, not, List, [], ◌∷◌, ◌++◌, length, Option, Some, None, IfSome, is_none, min, refl, sym, ◌∙◌, ap, ap₂, subst, arith}
use Rattle.std.proofs.Math.Bool.{and-true, or-false, or-true}
use Rattle.nz_script.specs.text.Tree.{Token, Tree, leaf}
use Rattle.std.specs.List.{list_all}
use Rattle.std.proofs.lemmas.List.Folds.{list_all-append}
use Rattle.nz_script.specs.text.Text.{Limits, HasNone, is_literal_byte, Filler, word, string, quoted, token_of, is_blank}
use Rattle.nz_script.specs.text.Reading.{Part, no_part, in_comment, in_word, in_string, after_quote, in_quoted, Reading, with_trees, with_closed, goes_on, closed, taken, taken_by, read_on}
use Rattle.nz_sexpr.specs.Words.{token_by}
use Rattle.nz_sexpr.specs.Part.{part_of, text_of_part, text_after, filler_of, kind_of_part, ends, part_after, begins_here}
use Rattle.nz_sexpr.specs.Matches.{Matches, IsWhatStands}
use Rattle.nz_sexpr.specs.Store.{OpenCommand, kept_of, Keeps, TakesToken}
use Rattle.nz_sexpr.specs.declared.scan.Scan.{Scan}
use Rattle.nz_sexpr.specs.declared.store.Store.{Store}
use Rattle.nz_sexpr.specs.declared.part.Part.TheVariants as part
use Rattle.nz_sexpr.specs.declared.words.TokenKind.{TokenKind}
use Rattle.nz_sexpr.proofs.Runs.{run_on, grown, begins_in, begins_so, part_grows, text_grows}
use Rattle.nz_sexpr.proofs.WordTokens.{of_kind, word_told, string_ends, quoted_ends}

-- what was kept stands in the reading after a step too
pub keeps_more : (old new : Option OpenCommand) (f : OpenCommand → OpenCommand) (s t : Reading) → Keeps old new f → IfSome old (IsWhatStands s) → ((k : OpenCommand) → IsWhatStands s k → IsWhatStands t (f k)) → IfSome new (IsWhatStands t)
keeps_more old None f s t h e g = tt
keeps_more None (Some n) f s t h e g = absurd h
keeps_more (Some o) (Some n) f s t h e g =
    let stands : IsWhatStands t (f o) = g o e in
    record { inside = stands.inside; all = h ∙ stands.all }

-- one list is open
pub one_open : (ls : List (List Tree)) → length ls ≡ 1 → (l : List Tree) × (ls ≡ l ∷ [])
one_open [] h = absurd (omega arith)
one_open (l ∷ []) h = (l, refl)
one_open (l ∷ m ∷ ls) h = absurd (omega arith)

-- what stands, stands where neither the lists nor the text change
pub stands_at : (o : Option OpenCommand) (s t : Reading) → t.levels ≡ s.levels → text_of_part t.part ≡ text_of_part s.part → IfSome o (IsWhatStands s) → IfSome o (IsWhatStands t)
stands_at None s t e g h = tt
stands_at (Some k) s t e g h = record {
  inside = omega (arith, ap length e, h.inside);
  all = h.all ∙ ap₂ (λ (x : List ℕ) (y : List (List Tree)). record { text = x; levels = y }) (sym g) (sym e);
}

-- bytes are counted
pub passes : (limits : Limits) (v : Scan) (s : Reading) (n : ℕ) → Matches limits v s → s.at + n < 2 ^ 64 → Matches limits (record v { at = min (v.at + n) (2 ^ 64 - 1) }) (record s { at = s.at + n })
passes limits v s n m h = record {
  depth_limit = m.depth_limit;
  byte_limit = m.byte_limit;
  at = omega (arith, m.at);
  from = m.from;
  part = m.part;
  depth = m.depth;
  few = omega (arith, m.few);
  bad = m.bad;
  deep = m.deep;
  kept = stands_at (kept_of v.store) s (record s { at = s.at + n }) refl refl m.kept;
}

pub length-with_trees : (ts : List Tree) (ls : List (List Tree)) → length (with_trees ts ls) ≡ length ls
length-with_trees ts [] = refl
length-with_trees ts (l ∷ ls) = refl

-- ---- A token ends in a command

-- the reading where a token of this kind ends, or a bad one
abbrev ended_as : Option TokenKind → List ℕ → List (List Tree) → Reading → Reading
ended_as (Some k) w ls s = record s { part = no_part; levels = with_trees (leaf (token_by k w) ∷ []) ls }
ended_as None w ls s = record s { part = no_part; levels = with_trees [] ls; bad = true }

ends_by : (o : Option TokenKind) (f : Filler) (w : List ℕ) (ls : List (List Tree)) (s : Reading) → 0 < length ls → is_blank f ≡ false → token_of f ≡ of_kind w o → taken_by f ls s ≡ ended_as o w ls s
ends_by o f w [] s n b e = absurd (omega arith)
ends_by (Some k) f w (l ∷ ls) s n b e =
    ap₂ (λ (t : Option Token) (b : Bool). record s { part = no_part; levels = with_trees (elim t [ Some x ↦ leaf x ∷ [] | None ↦ [] ]) (l ∷ ls); bad = s.bad || (not b && is_none t) }) e b
    ∙ ap (λ c. record s { part = no_part; levels = with_trees (leaf (token_by k w) ∷ []) (l ∷ ls); bad = c }) (or-false s.bad)
ends_by None f w (l ∷ ls) s n b e =
    ap₂ (λ (t : Option Token) (b : Bool). record s { part = no_part; levels = with_trees (elim t [ Some x ↦ leaf x ∷ [] | None ↦ [] ]) (l ∷ ls); bad = s.bad || (not b && is_none t) }) e b
    ∙ ap (λ c. record s { part = no_part; levels = with_trees [] (l ∷ ls); bad = c }) (or-true s.bad)

ended_matches : (limits : Limits) (v : Scan) (s : Reading) (st : Store) (o : Option TokenKind) → Matches limits v s → 0 < length s.levels → TakesToken o (kept_of v.store) (kept_of st) → Matches limits (record v { part = part.Absent; bad = v.bad || is_none o; store = st }) (ended_as o (text_of_part s.part) s.levels s)
ended_matches limits v s st (Some k) m n h = record {
  depth_limit = m.depth_limit;
  byte_limit = m.byte_limit;
  at = m.at;
  from = m.from;
  part = refl;
  depth = m.depth ∙ sym (length-with_trees (leaf (token_by k (text_of_part s.part)) ∷ []) s.levels);
  few = omega (arith, m.few, length-with_trees (leaf (token_by k (text_of_part s.part)) ∷ []) s.levels);
  bad = or-false v.bad ∙ m.bad;
  deep = m.deep;
  kept = keeps_more (kept_of v.store) (kept_of st) (λ x. record { text = []; levels = with_trees (leaf (token_by k x.text) ∷ []) x.levels }) s (ended_as (Some k) (text_of_part s.part) s.levels s) h m.kept
      (λ x stands. record {
        inside = omega (arith, n, length-with_trees (leaf (token_by k (text_of_part s.part)) ∷ []) s.levels);
        all = ap (λ (y : OpenCommand). record { text = []; levels = with_trees (leaf (token_by k y.text) ∷ []) y.levels }) stands.all;
      });
}
ended_matches limits v s st None m n h = record {
  depth_limit = m.depth_limit;
  byte_limit = m.byte_limit;
  at = m.at;
  from = m.from;
  part = refl;
  depth = m.depth ∙ sym (length-with_trees [] s.levels);
  few = omega (arith, m.few, length-with_trees [] s.levels);
  bad = or-true v.bad;
  deep = m.deep;
  kept = subst (λ o. IfSome o (IsWhatStands (ended_as None (text_of_part s.part) s.levels s))) (sym h) tt;
}

takes : (limits : Limits) (v : Scan) (s : Reading) (f : Filler) (o : Option TokenKind) → 0 < length s.levels → is_blank f ≡ false → token_of f ≡ of_kind (text_of_part s.part) o → Matches limits v (ended_as o (text_of_part s.part) s.levels s) → Matches limits v (taken f s)
takes limits v s f o n b e m = subst (Matches limits v) (sym (ends_by o f (text_of_part s.part) s.levels s n b e)) m

filled : (limits : Limits) (v : Scan) (s : Reading) (p : Part) → s.part ≡ p → 0 < length s.levels → Matches limits v (ended_as (kind_of_part (part_of s.part)) (text_of_part s.part) s.levels s) → IfSome (filler_of p) (λ f. Matches limits v (taken f s))
filled limits v s no_part e n m = tt
filled limits v s in_comment e n m = tt
filled limits v s (in_word w) e n m = takes limits v s (word w) (kind_of_part (part_of s.part)) n refl (subst (λ p. token_of (word w) ≡ of_kind (text_of_part p) (kind_of_part (part_of p))) (sym e) (word_told w)) m
filled limits v s (in_string w) e n m = tt
filled limits v s (after_quote w) e n m = takes limits v s (string w) (kind_of_part (part_of s.part)) n refl (subst (λ p. token_of (string w) ≡ of_kind (text_of_part p) (kind_of_part (part_of p))) (sym e) (string_ends w)) m
filled limits v s (in_quoted w) e n m = takes limits v s (quoted w) (kind_of_part (part_of s.part)) n refl (subst (λ p. token_of (quoted w) ≡ of_kind (text_of_part p) (kind_of_part (part_of p))) (sym e) (quoted_ends w)) m

pub token_ends : (limits : Limits) (v : Scan) (s : Reading) (st : Store) → Matches limits v s → 0 < length s.levels → TakesToken (kind_of_part (part_of s.part)) (kept_of v.store) (kept_of st) → IfSome (filler_of s.part) (λ f. Matches limits (record v { part = part.Absent; bad = v.bad || is_none (kind_of_part (part_of s.part)); store = st }) (taken f s))
token_ends limits v s st m n h = filled limits _ s s.part refl n (ended_matches limits v s st (kind_of_part (part_of s.part)) m n h)

-- ---- A run of bytes

pub run_matches : (limits : Limits) (v : Scan) (s : Reading) (st : Store) (run : List ℕ) → Matches limits v s → 0 < length run → HasNone (ends v.part) run → s.at + length run < 2 ^ 64 → Keeps (kept_of v.store) (kept_of st) (λ k. record k { text = text_after v.part k.text run }) → Matches limits (record v { at = min (v.at + length run) (2 ^ 64 - 1); from = begins_here v.part v.depth v.at v.from; part = part_after v.part run; store = st }) (read_on s run)
run_matches limits v s st run m n h few keeps =
    let none : HasNone (ends (part_of s.part)) run = subst (λ p. HasNone (ends p) run) m.part h in
    let t : Reading = record s { at = s.at + length run; from = begins_in s.part s; part = grown s.part run } in
    subst (Matches limits (record v { at = min (v.at + length run) (2 ^ 64 - 1); from = begins_here v.part v.depth v.at v.from; part = part_after v.part run; store = st })) (sym (run_on run s n none)) (record {
      depth_limit = m.depth_limit;
      byte_limit = m.byte_limit;
      at = omega (arith, m.at);
      from = rw (m.part, m.depth, m.at, m.from) (begins_so s);
      part = ap (λ p. part_after p run) m.part ∙ part_grows s.part run;
      depth = m.depth;
      few = omega (arith, m.few);
      bad = m.bad;
      deep = m.deep;
      kept = keeps_more (kept_of v.store) (kept_of st) (λ k. record k { text = text_after v.part k.text run }) s t keeps m.kept
          (λ k stands. record {
            inside = stands.inside;
            all = ap (λ (x : OpenCommand). record x { text = text_after v.part x.text run }) stands.all
                ∙ ap (λ p. record { text = text_after p (text_of_part s.part) run; levels = s.levels }) m.part
                ∙ ap (λ x. record { text = x; levels = s.levels }) (text_grows s.part run none);
          });
    })

-- ---- Two quotes

pub quote_doubles : (limits : Limits) (v : Scan) (s : Reading) (st : Store) (w : List ℕ) (clean : Bool) → Matches limits v s → v.part ≡ part.AfterQuote clean → s.part ≡ after_quote w → s.at + 1 < 2 ^ 64 → Keeps (kept_of v.store) (kept_of st) (λ k. record k { text = k.text ++ 34 ∷ [] }) → Matches limits (record v { at = min (v.at + 1) (2 ^ 64 - 1); part = part.String clean; store = st }) (goes_on (in_string (w ++ 34 ∷ [])) s)
quote_doubles limits v s st w clean m c p few keeps =
    let is : part.AfterQuote clean ≡ part.AfterQuote (list_all is_literal_byte w) = sym c ∙ m.part ∙ ap part_of p in
    let same : clean ≡ list_all is_literal_byte w = cc in
    record {
      depth_limit = m.depth_limit;
      byte_limit = m.byte_limit;
      at = omega (arith, m.at);
      from = m.from;
      part = ap part.String (same ∙ sym (list_all-append is_literal_byte w (34 ∷ []) ∙ and-true (list_all is_literal_byte w)));
      depth = m.depth;
      few = omega (arith, m.few);
      bad = m.bad;
      deep = m.deep;
      kept = keeps_more (kept_of v.store) (kept_of st) (λ k. record k { text = k.text ++ 34 ∷ [] }) s (goes_on (in_string (w ++ 34 ∷ [])) s) keeps m.kept
          (λ k stands. record {
            inside = stands.inside;
            all = ap (λ (x : OpenCommand). record x { text = x.text ++ 34 ∷ [] }) stands.all
                ∙ ap (λ q. record { text = text_of_part q ++ 34 ∷ []; levels = s.levels }) p;
          });
    }

-- ---- A list closes

shorter : (ls : List (List Tree)) → 1 < length ls → (0 < length (with_closed ls)) × (length (with_closed ls) + 1 ≡ length ls)
shorter [] h = absurd (omega arith)
shorter (l ∷ []) h = absurd (omega arith)
shorter (l ∷ m ∷ ls) h = (omega arith, omega arith)

pub list_closes : (limits : Limits) (v : Scan) (s : Reading) (st : Store) → Matches limits v s → 1 < v.depth → s.at + 1 < 2 ^ 64 → Keeps (kept_of v.store) (kept_of st) (λ k. record k { levels = with_closed k.levels }) → Matches limits (record v { at = min (v.at + 1) (2 ^ 64 - 1); depth = v.depth - 1; store = st }) (closed s)
list_closes limits v s st m n few keeps =
    let less = shorter s.levels (omega (arith, m.depth)) in
    record {
      depth_limit = m.depth_limit;
      byte_limit = m.byte_limit;
      at = omega (arith, m.at);
      from = m.from;
      part = m.part;
      depth = omega (arith, m.depth, less.1);
      few = omega (arith, m.few, less.1);
      bad = m.bad;
      deep = m.deep;
      kept = keeps_more (kept_of v.store) (kept_of st) (λ k. record k { levels = with_closed k.levels }) s (closed s) keeps m.kept
          (λ k stands. record { inside = less.0; all = ap (λ (x : OpenCommand). record x { levels = with_closed x.levels }) stands.all });
    }

pub command_closes : (limits : Limits) (v : Scan) (s : Reading) (st : Store) → Matches limits v s → v.depth ≡ 1 → s.at + 1 < 2 ^ 64 → kept_of st ≡ None → Matches limits (record v { at = min (v.at + 1) (2 ^ 64 - 1); depth = 0; store = st }) (closed s)
command_closes limits v s st m n few none =
    let one = one_open s.levels (sym m.depth ∙ n) in
    let closes : with_closed s.levels ≡ [] = ap with_closed one.1 in
    record {
      depth_limit = m.depth_limit;
      byte_limit = m.byte_limit;
      at = omega (arith, m.at);
      from = m.from;
      part = m.part;
      depth = sym (ap length closes);
      few = omega (arith, ap length closes);
      bad = m.bad;
      deep = m.deep;
      kept = subst (λ o. IfSome o (IsWhatStands (closed s))) (sym none) tt;
    }
