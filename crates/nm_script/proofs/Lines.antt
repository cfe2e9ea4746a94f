-- How a text is read, line by line.
use Rattle.std.proofs.Common.{◌≡◌, ℕ, ◌+◌, ◌≤◌, List, [], ◌∷◌, ◌++◌, length, codes, ap, sym, refl, subst, ◌∙◌, arith, append_assoc, length-append}
use Rattle.std.specs.List.{flat_map}
use Rattle.std.proofs.lemmas.List.Elements.{All-nil, All-push}
use Rattle.std.proofs.lemmas.List.{append-nil}
use Rattle.std.proofs.lemmas.Grind.{flat_map-append}
use Rattle.nm_base.specs.Text.{HasNo}
use Rattle.nm_rounds.specs.declared.step.WorldStep.{WorldStep}
use Rattle.nm_script.specs.declared.line.Line.{Line}
use Rattle.nm_base.specs.declared.limits.TheConstants.{MAX_SCRIPT_STEPS}
use Rattle.nm_script.specs.Grammar.{Says}
use Rattle.nm_script.specs.Script.{AreLines, IsScript, Said, steps_in}

-- the text is read up to this rest of it: so many lines, which say these steps
pub record IsReadTo (text rest : List ℕ) (steps : List WorldStep) (number : ℕ) : Type 0 where
  pub front : List ℕ
  pub lines : List Said
  pub parts : text ≡ front ++ rest
  pub are : AreLines lines front steps
  pub counted : number ≡ length lines

pub begins : (text : List ℕ) → IsReadTo text text [] 0
begins text = record {
  front = [];
  lines = [];
  parts = refl;
  are = record { whole = refl; ended = All-nil _; say = All-nil _; all = refl; few = omega arith };
  counted = refl;
}

pub ends : (text : List ℕ) (steps : List WorldStep) (n : ℕ) → IsReadTo text [] steps n → IsScript text steps
ends text steps n h =
    record { lines = h.lines; are = subst (λ (t : List ℕ). AreLines h.lines t steps) (sym (append-nil h.front) ∙ sym h.parts) h.are }

-- one more line, and one more line's steps
flat_map_more_one : (lines : List Said) (l : Said) → flat_map (λ (m : Said). m.0 ++ codes "\n") lines ++ (l.0 ++ 10 ∷ []) ≡ flat_map (λ (m : Said). m.0 ++ codes "\n") (lines ++ l ∷ [])
flat_map_more_one lines l = sym (flat_map-append (λ (m : Said). m.0 ++ codes "\n") lines (l ∷ [])
    ∙ ap (λ (t : List ℕ). flat_map (λ (m : Said). m.0 ++ codes "\n") lines ++ t) (append-nil (l.0 ++ codes "\n")))

flat_map_more_steps : (lines : List Said) (l : Said) → flat_map (λ (m : Said). steps_in m.1) lines ++ steps_in l.1 ≡ flat_map (λ (m : Said). steps_in m.1) (lines ++ l ∷ [])
flat_map_more_steps lines l = sym (flat_map-append (λ (m : Said). steps_in m.1) lines (l ∷ [])
    ∙ ap (λ (t : List WorldStep). flat_map (λ (m : Said). steps_in m.1) lines ++ t) (append-nil (steps_in l.1)))

pub goes_on : (text rest line more : List ℕ) (steps after : List WorldStep) (n : ℕ) (said : Line) → IsReadTo text rest steps n
    → rest ≡ line ++ 10 ∷ more → HasNo 10 line → Says line said → after ≡ steps ++ steps_in said → length after ≤ MAX_SCRIPT_STEPS
    → IsReadTo text more after (n + 1)
goes_on text rest line more steps after n said h cut ended says took few =
    let shown : Said = (line, said) in
    record {
      front = h.front ++ line ++ 10 ∷ [];
      lines = h.lines ++ shown ∷ [];
      parts = h.parts ∙ ap (λ (t : List ℕ). h.front ++ t) cut ∙ grind (arith, append_assoc);
      are = record {
        whole =
            ap (λ (t : List ℕ). (t ++ line) ++ 10 ∷ []) h.are.whole ∙ append_assoc (flat_map (λ (l : Said). l.0 ++ codes "\n") h.lines) line (10 ∷ [])
            ∙ flat_map_more_one h.lines shown;
        ended = All-push (λ (l : Said). HasNo 10 l.0) h.lines shown h.are.ended ended;
        say = All-push (λ (l : Said). Says l.0 l.1) h.lines shown h.are.say says;
        all = took ∙ ap (λ (t : List WorldStep). t ++ steps_in said) h.are.all ∙ flat_map_more_steps h.lines shown;
        few = few;
      };
      counted = omega (arith, h.counted, length-append h.lines (shown ∷ []));
    }
