-- What is told of types, one after another.
use Rattle.std.proofs.Common.{◌≡◌, ℕ, ◌+◌, List, [], ◌∷◌, ◌++◌, refl, sym, ap, ap₂, ◌∙◌, subst, append_assoc}
use Rattle.std.proofs.lemmas.List.{map-append}
use Rattle.std.proofs.lemmas.List.Elements.{All-push, All-nil}
use Rattle.md_math.specs.Lists.{up_to}
use Rattle.md_math.proofs.Builders.{up_to-more}
use Rattle.md_setting.specs.Setting.{GeneralSetting}
use Rattle.md_mech.specs.declared.mechanism.Mechanism.{Mechanism}
use Rattle.md_report.specs.declared.type_numbers.TypeNumbers.{TypeNumbers}
use Rattle.md_report.specs.Types.{TypeOf, type_told, IsToldOf, AreTold}

pub told-none : (s : GeneralSetting) (m : Mechanism) → AreTold s m [] []
told-none s m = record { are = refl; each = All-nil (IsToldOf s m) }

-- one type more
pub told-more : (s : GeneralSetting) (m : Mechanism) (before : List TypeOf) (told : List TypeNumbers) (next : TypeNumbers) → AreTold s m before told → IsToldOf s m next
    → AreTold s m (before ++ type_told next ∷ []) (told ++ next ∷ [])
told-more s m before told next h is = record {
  are = map-append type_told told (next ∷ []) ∙ ap (λ xs. xs ++ type_told next ∷ []) h.are;
  each = All-push (IsToldOf s m) told next h.each is;
}

-- one type more of an agent, behind those of the agents before it
pub of_agent-more : (s : GeneralSetting) (m : Mechanism) (before : List TypeOf) (told : List TypeNumbers) (next : TypeNumbers) (i a : ℕ)
    → AreTold s m (before ++ up_to a (λ c. record { agent = i; kind = c } ∷ [])) told → IsToldOf s m next → next.agent ≡ i → next.kind ≡ a
    → AreTold s m (before ++ up_to (a + 1) (λ c. record { agent = i; kind = c } ∷ [])) (told ++ next ∷ [])
of_agent-more s m before told next i a h is e f =
    let one : type_told next ≡ record { agent = i; kind = a } = ap₂ (λ x y. record { agent = x; kind = y }) e f in
    subst (λ types. AreTold s m types (told ++ next ∷ []))
    (ap (λ t. (before ++ up_to a (λ c. record { agent = i; kind = c } ∷ [])) ++ t ∷ []) one
    ∙ append_assoc before (up_to a (λ c. record { agent = i; kind = c } ∷ [])) (record { agent = i; kind = a } ∷ [])
    ∙ ap (λ xs. before ++ xs) (sym (up_to-more a (λ c. record { agent = i; kind = c } ∷ []))))
    (told-more s m (before ++ up_to a (λ c. record { agent = i; kind = c } ∷ [])) told next h is)
