-- All definitions on the way of a call and of the listing, named once, crate by crate: a theorem that computes says `unfolding computed`.
unfoldable computed_octets : Unit {0}
unfolding
    mathlib.Core.List.flat_map Rattle.octets.specs.Ascii.codes_from
    Rattle.octets.specs.Ascii.ascii Rattle.octets.specs.Ascii.digit_value Rattle.octets.specs.Ascii.digit_pairs Rattle.octets.specs.Ascii.octets_of
    Rattle.octets.specs.First.given_if Rattle.octets.specs.Lists.all_of Rattle.octets.specs.Lists.any_of Rattle.octets.specs.Lists.filter
    Rattle.octets.specs.Lists.distinct_by Rattle.octets.specs.Number.number_from Rattle.octets.specs.Number.big_endian
    Rattle.octets.specs.Number.digits Rattle.octets.specs.Octets.same Rattle.octets.specs.Octets.member Rattle.octets.specs.Octets.distinct
    Rattle.octets.specs.Octets.ordered Rattle.octets.specs.Octets.placed
computed_octets = tt

unfoldable computed-der : Unit {0}
unfolding
    Rattle.der.specs.Check.sorted_in Rattle.der.specs.Check.der Rattle.der.specs.Check.spans Rattle.der.specs.Contents.integer_ok
    Rattle.der.specs.Contents.boolean_ok Rattle.der.specs.Contents.arcs_ok Rattle.der.specs.Contents.oid_ok Rattle.der.specs.Contents.contents_ok
    Rattle.der.specs.Element.length_at Rattle.der.specs.Element.length_shortest Rattle.der.specs.Element.headed Rattle.der.specs.Element.element_at
    Rattle.der.specs.Element.elements_from Rattle.der.specs.Element.elements Rattle.der.specs.Element.with_tag Rattle.der.specs.Keys.key_of Rattle.der.specs.Keys.first_with Rattle.der.specs.Fit.and_then
    Rattle.der.specs.Fit.held Rattle.der.specs.Fit.each_from Rattle.der.specs.Fit.each Rattle.der.specs.Fit.applies_if Rattle.der.specs.Fit.given_at Rattle.der.specs.Oid.arc
    Rattle.der.specs.Oid.arcs Rattle.der.specs.Oid.oid Rattle.der.specs.Write.length_octets Rattle.der.specs.Write.element
computed-der = tt

unfoldable computed_syntax : Unit {0}
unfolding
    Rattle.syntax.specs.Grammar.obeyed Rattle.syntax.specs.Grammar.fit Rattle.syntax.specs.Types.type_oid Rattle.syntax.specs.Types.syntax_of
    Rattle.syntax.specs.Types.row_of Rattle.syntax.specs.Types.recognised
computed_syntax = tt

unfoldable computed_rights : Unit {0}
unfolding
    Rattle.rights.specs.Attributes.is_other_attribute Rattle.rights.specs.Attributes.pairs Rattle.rights.specs.Constraints.attr_constraint
    Rattle.rights.specs.Constraints.content_type_constraint Rattle.rights.specs.Constraints.constraints_rights Rattle.rights.specs.Decision.oid
    Rattle.rights.specs.Decision.integer Rattle.rights.specs.Decision.fresh_from Rattle.rights.specs.Decision.fresh
    Rattle.rights.specs.Decision.keys Rattle.rights.specs.Decision.find_some Rattle.rights.specs.Decision.unlisted
    Rattle.rights.specs.Decision.value_outside Rattle.rights.specs.Decision.attribute_outside Rattle.rights.specs.Decision.pair_outside
    Rattle.rights.specs.Decision.role_outside Rattle.rights.specs.Decision.entry_outside Rattle.rights.specs.Decision.type_outside
    Rattle.rights.specs.Decision.listed_types Rattle.rights.specs.Decision.unlisted_type Rattle.rights.specs.Decision.outside
    Rattle.rights.specs.Decision.within Rattle.rights.specs.Rights.any_content_type Rattle.rights.specs.Rights.lookup
    Rattle.rights.specs.Rights.governing Rattle.rights.specs.Rights.may_act Rattle.rights.specs.Rights.allowed Rattle.rights.specs.Rights.meets
    Rattle.rights.specs.Rights.permits Rattle.rights.specs.Rights.authorises Rattle.rights.specs.Rights.everything
    Rattle.rights.specs.Rights.nothing
computed_rights = tt

unfoldable computed_anchor : Unit {0}
unfolding
    Rattle.anchor.specs.Info.version Rattle.anchor.specs.Info.public_key Rattle.anchor.specs.Info.key_id_field
    Rattle.anchor.specs.Info.cert_path Rattle.anchor.specs.Info.extensions Rattle.anchor.specs.Info.constraints_in
    Rattle.anchor.specs.Info.constraints_extension Rattle.anchor.specs.Info.rights_of Rattle.anchor.specs.Judge.check_status Rattle.anchor.specs.Judge.fault_status
    Rattle.anchor.specs.Judge.conforms Rattle.anchor.specs.Judge.repeated_extension Rattle.anchor.specs.Judge.critical_extension
    Rattle.anchor.specs.Judge.bad_constraints Rattle.anchor.specs.Judge.repeated_constraint Rattle.anchor.specs.Judge.any_content_type_unlike
    Rattle.anchor.specs.Judge.identifier_outside Rattle.anchor.specs.Judge.over_entries Rattle.anchor.specs.Judge.over_attributes
    Rattle.anchor.specs.Judge.over_values Rattle.anchor.specs.Judge.over_value_octets Rattle.anchor.specs.Judge.judge
    Rattle.anchor.specs.Judge.storable Rattle.anchor.specs.Role.role_of
computed_anchor = tt

unfoldable computed-store : Unit {0}
unfolding
    Rattle.store.specs.Image.encode_number Rattle.store.specs.Image.encode_anchor Rattle.store.specs.Image.encode_device
    Rattle.store.specs.Image.encode Rattle.store.specs.Image.provided Rattle.store.specs.Image.pass_on Rattle.store.specs.Image.read_octets
    Rattle.store.specs.Image.read_number Rattle.store.specs.Image.read_sized Rattle.store.specs.Image.read_device
    Rattle.store.specs.Image.present_number Rattle.store.specs.Image.number_ok Rattle.store.specs.Image.read_anchor
    Rattle.store.specs.Image.read_community Rattle.store.specs.Image.read_times Rattle.store.specs.Image.read_device_section
    Rattle.store.specs.Image.read_anchor_section Rattle.store.specs.Image.read_community_section Rattle.store.specs.Image.read_store
    Rattle.store.specs.Image.alone Rattle.store.specs.Image.decode Rattle.store.specs.Image.name_ok Rattle.store.specs.Image.anchor_ok
    Rattle.store.specs.Image.well_formed Rattle.store.specs.Listing.hex_digit Rattle.store.specs.Listing.hex Rattle.store.specs.Listing.decimal
    Rattle.store.specs.Listing.number_text Rattle.store.specs.Listing.role_text Rattle.store.specs.Listing.anchor_line
    Rattle.store.specs.Listing.anchor_lines Rattle.store.specs.Listing.count_line Rattle.store.specs.Listing.store_text
    Rattle.store.specs.Listing.listing_of Rattle.store.specs.Listing.listing Rattle.store.specs.Signer.signer_from
    Rattle.store.specs.Signer.signer
computed-store = tt

unfoldable computed-envelope : Unit {0}
unfolding
    Rattle.envelope.specs.Attributes.value_syntax Rattle.envelope.specs.Attributes.attribute_fit Rattle.envelope.specs.Attributes.repeated
    Rattle.envelope.specs.Attributes.has_type Rattle.envelope.specs.Attributes.attributes_fit Rattle.envelope.specs.Parts.content_info
    Rattle.envelope.specs.Parts.content_type Rattle.envelope.specs.Parts.content Rattle.envelope.specs.Parts.signed_data
    Rattle.envelope.specs.Parts.encap_content_info Rattle.envelope.specs.Parts.certificates Rattle.envelope.specs.Parts.crls
    Rattle.envelope.specs.Parts.signer_infos Rattle.envelope.specs.Parts.e_content_type Rattle.envelope.specs.Parts.e_content_tag
    Rattle.envelope.specs.Parts.e_content Rattle.envelope.specs.Parts.signer_info Rattle.envelope.specs.Parts.subject_key_identifier
    Rattle.envelope.specs.Parts.signed_attrs Rattle.envelope.specs.Parts.unsigned_attrs Rattle.envelope.specs.Rows.row_1
    Rattle.envelope.specs.Rows.row_29 Rattle.envelope.specs.Rows.row_2 Rattle.envelope.specs.Rows.row_3 Rattle.envelope.specs.Rows.row_4
    Rattle.envelope.specs.Rows.row_9 Rattle.envelope.specs.Rows.row_18 Rattle.envelope.specs.Rows.kind_in Rattle.envelope.specs.Rows.row_5 Rattle.envelope.specs.Rows.row_6
    Rattle.envelope.specs.Rows.row_7 Rattle.envelope.specs.Rows.row_8
    Rattle.envelope.specs.Rows.envelope Rattle.envelope.specs.Rows.wrapper Rattle.envelope.specs.Rows.given_first
computed-envelope = tt

unfoldable computed-message : Unit {0}
unfolding
    Rattle.message.specs.Fields.body_in Rattle.message.specs.Fields.msg_ref_in Rattle.message.specs.Fields.version_in
    Rattle.message.specs.Fields.terse_in Rattle.message.specs.Fields.target_in Rattle.message.specs.Fields.seq_num_in
    Rattle.message.specs.Fields.seq_number_in Rattle.message.specs.Fields.tamp_seq_numbers_in Rattle.message.specs.Fields.updates_in Rattle.message.specs.Fields.entry_of Rattle.message.specs.Fields.entries_in
    Rattle.message.specs.Fields.seq_numbers_in Rattle.message.specs.Fields.remove_in
    Rattle.message.specs.Fields.oids_in Rattle.message.specs.Fields.additions_in Rattle.message.specs.Rows.row_36 Rattle.message.specs.Rows.row_31
    Rattle.message.specs.Rows.has_terse Rattle.message.specs.Rows.row_127 Rattle.message.specs.Rows.unwrapped
    Rattle.message.specs.Rows.received_of Rattle.message.specs.Rows.received Rattle.message.specs.Rows.in_message
    Rattle.message.specs.Rows.request_in
computed-message = tt

unfoldable computed_reply : Unit {0}
unfolding
    Rattle.reply.specs.Replies.tamp_error Rattle.reply.specs.Replies.list_of Rattle.reply.specs.Replies.status_response
    Rattle.reply.specs.Replies.update_confirm Rattle.reply.specs.Replies.community_confirm Rattle.reply.specs.Replies.adjust_confirm
computed_reply = tt

unfoldable computed_tamp : Unit {0}
unfolding
    Rattle.protocol.specs.Acceptance.found_status Rattle.protocol.specs.Acceptance.row_23 Rattle.protocol.specs.Target.block_names
    Rattle.protocol.specs.Target.entry_names Rattle.protocol.specs.Target.module_names Rattle.protocol.specs.Target.names_device
    Rattle.protocol.specs.Acceptance.message_content Rattle.protocol.specs.Acceptance.row_11 Rattle.protocol.specs.Acceptance.too_low
    Rattle.protocol.specs.Acceptance.row_21 Rattle.protocol.specs.Acceptance.judged_at Rattle.protocol.specs.Acceptance.by_signer
    Rattle.protocol.specs.Acceptance.judgement_of Rattle.protocol.specs.Acceptance.judgement Rattle.protocol.specs.Call.row_202
    Rattle.protocol.specs.Call.row_203 Rattle.protocol.specs.Call.row_204 Rattle.protocol.specs.Call.row_205
    Rattle.protocol.specs.Call.refusal_reply Rattle.protocol.specs.Call.answer_of Rattle.protocol.specs.Call.guarded
    Rattle.protocol.specs.Call.call_on Rattle.protocol.specs.Call.call_of Rattle.protocol.specs.Call.call
    Rattle.protocol.specs.Call.outcome_number Rattle.protocol.specs.Call.outcome_offset Rattle.protocol.specs.Call.reply_of Rattle.protocol.specs.Call.next_of
    Rattle.protocol.specs.Call.reply_buffer Rattle.protocol.specs.Call.next_buffer Rattle.protocol.specs.Community.after_removals
    Rattle.protocol.specs.Community.after_additions Rattle.protocol.specs.Community.community_status
    Rattle.protocol.specs.Community.communities_after Rattle.protocol.specs.Effect.number_set Rattle.protocol.specs.Effect.with_number
    Rattle.protocol.specs.Effect.update_effect Rattle.protocol.specs.Effect.community_effect Rattle.protocol.specs.Effect.query_effect
    Rattle.protocol.specs.Effect.adjust_effect Rattle.protocol.specs.Effect.effect_of Rattle.protocol.specs.Effect.effect
    Rattle.protocol.specs.Examples.image Rattle.protocol.specs.Examples.query6 Rattle.protocol.specs.Examples.query5
    Rattle.protocol.specs.Examples.adjust5 Rattle.protocol.specs.Examples.adjust4 Rattle.protocol.specs.Examples.unsigned_attributes
    Rattle.protocol.specs.Examples.query6by02 Rattle.protocol.specs.Examples.query_elsewhere Rattle.protocol.specs.Examples.query_verbose
    Rattle.protocol.specs.Examples.query_cut Rattle.protocol.specs.Examples.community_twice Rattle.protocol.specs.Examples.add_cert_path
    Rattle.protocol.specs.Examples.openssl_signed Rattle.protocol.specs.Messages.signed_attrs
    Rattle.protocol.specs.Messages.signer_info Rattle.protocol.specs.Messages.signed_content_info Rattle.protocol.specs.Messages.any_digest Rattle.protocol.specs.Messages.any_signature
    Rattle.protocol.specs.OffsetExamples.query_with Rattle.protocol.specs.Messages.signed_by Rattle.protocol.specs.Messages.trust_anchor_info
    Rattle.protocol.specs.Messages.content_constraints Rattle.protocol.specs.PermitExamples.rows
    Rattle.protocol.specs.PermitExamples.season_rows Rattle.protocol.specs.PermitExamples.image
    Rattle.protocol.specs.NotEmpty.image Rattle.protocol.specs.NotEmpty.enrols
    Rattle.protocol.specs.Update.added Rattle.protocol.specs.Update.removed Rattle.protocol.specs.Update.step
    Rattle.protocol.specs.Update.steps Rattle.protocol.specs.Update.with_seq_number Rattle.protocol.specs.Update.with_seq_numbers
    Rattle.protocol.specs.Permit.signed_content Rattle.protocol.specs.Permit.permit_by Rattle.protocol.specs.Permit.permit_on
    Rattle.protocol.specs.Permit.permit_of Rattle.protocol.specs.Permit.permit
computed_tamp = tt

unfoldable pub computed : Unit {0}
unfolding computed_octets computed-der computed_syntax computed_rights computed_anchor computed-store computed-envelope computed-message computed_reply computed_tamp
computed = tt
