-- The parts of the object stand one after another.
use Rattle.std.proofs.Common.{◌≡◌, ℕ, List, ◌++◌, replicate}
use Rattle.elf_format.specs.Example.{example_header, unit, names_of_sections}
use Rattle.demo_input.specs.Object.{numbered_set, object_with, numbered_object, section_headers}
use Rattle.demo_input.proofs.Appending.{and_then, and_then_same}
use Rattle.demo_input.proofs.object.push_object.Goals as goal

pub returns : goal.returns
unfolding numbered_set object_with numbered_object
returns c =
    let s : List ℕ = c.args.buffer.now.items in
    let s1 : List ℕ = c.extend_from_slice.new.self.items in
    let s2 : List ℕ = c.extend_from_slice-2.new.self.items in
    let s3 : List ℕ = c.extend_from_slice-3.new.self.items in
    let s4 : List ℕ = c.extend_from_slice-4.new.self.items in
    let s5 : List ℕ = c.extend_from_slice-5.new.self.items in
    let h : List ℕ = example_header 181 5 62 1 in
    let names : List ℕ = numbered_set c.args.number in
    let code : List ℕ = replicate 16 0 in
    let e1 : s1 ≡ s ++ h = c.in_ok-extend_from_slice.ensures.items in
    let e2 : s2 ≡ s ++ (h ++ unit) = and_then s s1 s2 h unit e1 c.in_ok-extend_from_slice-2.ensures.items in
    let e3 : s3 ≡ s ++ (h ++ unit ++ names) = and_then_same s s2 s3 (h ++ unit) c.name_set.result names e2 c.in_ok-extend_from_slice-3.ensures.items c.name_set.ensures in
    let e4 : s4 ≡ s ++ (h ++ unit ++ names ++ code) = and_then s s3 s4 (h ++ unit ++ names) code e3 c.in_ok-extend_from_slice-4.ensures.items in
    let e5 : s5 ≡ s ++ (h ++ unit ++ names ++ code ++ names_of_sections) = and_then s s4 s5 (h ++ unit ++ names ++ code) names_of_sections e4 c.in_ok-extend_from_slice-5.ensures.items in
    and_then s s5 c.push_section_headers.new.buffer.items (h ++ unit ++ names ++ code ++ names_of_sections) section_headers e5 c.in_ok-push_section_headers.ensures
